-- Each line of a model has at most one text at the front of some tokens, has one at all, and begins with one of some tokens.
use Rattle.std.proofs.Common.{◌≡◌, ◌⊎◌, ℕ, List, [], ◌∷◌, ◌++◌, Some, refl, sym, ◌∙◌, ap}
use Rattle.prism_syntax.specs.declared.tokens.Kind.{Kind}
use Rattle.prism_syntax.specs.declared.tokens.Kind.TheVariants as k
use Rattle.prism_syntax.specs.declared.models.SortWord.{SortWord}
use Rattle.prism_syntax.specs.declared.models.SortWord.TheVariants as sort
use Rattle.prism_syntax.specs.Models.{IsConst, IsFormula, IsLabel, IsVariable, IsGlobal, IsAssign, IsUpdate, IsWeighted, IsPair, Separated}
use Rattle.prism_reading.specs.Reading.{Anything}
use Rattle.prism_reading.specs.Sequences.{IsTerminal, IsName, Both, OneOf}
use Rattle.prism_reading.proofs.OverlapLemmas.{tails}
use Rattle.prism_reading.proofs.DefiniteLemmas.{IsDefinite, HasText, Starts, Leads, anything_leads, starts_lead, closed, narrowed, terminal_definite, terminal_has, terminal_starts, IsNameKind, is_name, name_definite, name_has, name_starts, quoted_definite, quoted_has}
use Rattle.prism_reading.proofs.BothLemmas.{both_definite, both_has, both_starts}
use Rattle.prism_reading.proofs.MadeLemmas.{is_made, made_definite, made_has, made_starts}
use Rattle.prism_reading.proofs.OneOfLemmas.{one_of_definite, one_of_starts, first_has, starts_apart}
use Rattle.prism_reading.proofs.SeparatedLemmas.{Divides, separated_definite, separated_has, separated_starts}
use Rattle.prism_model.specs.Parts.{BeginsNot, EndsBranches, IsExprUntil, IsSortWord, word, sort_of, IsSorted, IsOptionalEnded, IsRange, IsActionEnded, IsRenaming, IsPassed}
use Rattle.prism_model.proofs.ExpressionLemmas.{until_definite, until_has}
use Rattle.prism_model.proofs.LineLemmas.{optional_made, const_made, formula_made, label_made, variable_made, global_made, assign_made, update_made, weighted_made, pair_made, rewards_made}
use Rattle.prism_model.proofs.RewardsLemmas.{ends_definite, ends_has}

-- a closed rule and then another
pub both_closed : {X Y : Type 0} {A : List Kind → X → Type 0} {B : List Kind → Y → Type 0} {Follows : List Kind → Type 0}
    → IsDefinite A Anything → IsDefinite B Follows → IsDefinite (Both A B) Follows
both_closed one two = both_definite one anything_leads two

-- a token, and then a rule
pub after_token : {Y : Type 0} {B : List Kind → Y → Type 0} {Follows : List Kind → Type 0} (t : Kind) → IsDefinite B Follows → IsDefinite (Both (IsTerminal t) B) Follows
after_token t two = both_closed (terminal_definite t) two

-- two tokens of one kind are no tokens of two
apart : (t u : Kind) → (t ≡ u → ⊥) → (s : Kind) → s ≡ t → s ≡ u → ⊥
apart t u differ s is other = differ (sym is ∙ other)

name_is : (t : Kind) (s : Kind) → IsNameKind s → s ≡ t → ((text : List ℕ) → k.Name text ≡ t → ⊥) → ⊥
name_is t _ (is_name {text}) equal differ = differ text equal

-- a sort word
words_agree : (a b r s : List Kind) (x y : SortWord) → IsSortWord a x → IsSortWord b y → a ++ r ≡ b ++ s → (r ≡ s) × (x ≡ y)
words_agree _ _ r s x y (word {t} is) (word {t = u} other) equal =
    let same : t ≡ u = cc in
    let both : Some x ≡ Some y = sym is ∙ ap sort_of same ∙ other in
    (tails equal, cc)

pub word_definite : IsDefinite IsSortWord Anything
word_definite = closed (λ a b r s x y first second _ _ equal. words_agree a b r s x y first second equal)

pub word_has : HasText IsSortWord
word_has = record { tokens = k.Int ∷ []; tree = sort.Int; text = word refl }

abbrev pub IsSortKind : Kind → Type 0
IsSortKind t = (s : SortWord) × (sort_of t ≡ Some s)

word_first : (t : Kind) (l a : List Kind) (s : SortWord) → IsSortWord l s → l ≡ t ∷ a → IsSortKind t
word_first t _ a s (word {t = u} is) equal =
    let same : u ≡ t = cc in
    (s, ap sort_of (sym same) ∙ is)

word_some : (l : List Kind) (s : SortWord) → IsSortWord l s → l ≡ [] → ⊥
word_some _ s (word is) equal = cc

pub word_starts : Starts IsSortWord IsSortKind
word_starts = record { some = λ s text. word_some [] s text refl; first = λ t a s text. word_first t (t ∷ a) a s text refl }

pub no_sort_name : (t : Kind) → IsSortKind t → IsNameKind t → ⊥
no_sort_name _ (s, is) is_name = cc

-- a sort and a name
pub sorted_parts_definite : IsDefinite (OneOf (Both IsSortWord IsName) IsName) Anything
sorted_parts_definite = one_of_definite (both_closed word_definite name_definite) name_definite (starts_apart (both_starts word_starts) name_starts no_sort_name)

pub sorted_definite : IsDefinite IsSorted Anything
sorted_definite = made_definite is_made sorted_parts_definite

pub sorted_has : HasText IsSorted
sorted_has = made_has is_made (first_has (both_has word_has name_has))

-- an optional expression
pub optional_parts_definite : (lead : Kind) → (lead ≡ k.Semicolon → ⊥) → IsDefinite (OneOf (Both (IsTerminal lead) (IsExprUntil k.Semicolon)) (IsTerminal k.Semicolon)) Anything
optional_parts_definite lead differ =
    one_of_definite (after_token lead (until_definite k.Semicolon refl)) (terminal_definite k.Semicolon)
    (starts_apart (both_starts (terminal_starts lead)) (terminal_starts k.Semicolon) (apart lead k.Semicolon differ))

pub optional_definite : (lead : Kind) → (lead ≡ k.Semicolon → ⊥) → IsDefinite (IsOptionalEnded lead) Anything
optional_definite lead differ = made_definite (optional_made lead) (optional_parts_definite lead differ)

pub optional_has : (lead : Kind) → HasText (IsOptionalEnded lead)
optional_has lead = made_has (optional_made lead) (first_has (both_has (terminal_has lead) (until_has k.Semicolon)))

-- a constant
pub const_rest_definite : IsDefinite (Both IsSorted (IsOptionalEnded k.Equal)) Anything
const_rest_definite = both_closed sorted_definite (optional_definite k.Equal (λ is. cc))

pub const_parts_definite : IsDefinite (Both (IsTerminal k.Const) (Both IsSorted (IsOptionalEnded k.Equal))) Anything
const_parts_definite = after_token k.Const const_rest_definite

pub const_definite : IsDefinite IsConst Anything
const_definite = made_definite const_made const_parts_definite

pub const_starts : Starts IsConst (λ t. t ≡ k.Const)
const_starts = made_starts const_made (both_starts (terminal_starts k.Const))

pub const_has : HasText IsConst
const_has = made_has const_made (both_has (terminal_has k.Const) (both_has sorted_has (optional_has k.Equal)))

-- what stands after `=` in a formula and a label
pub named_rest_definite : IsDefinite (Both (IsTerminal k.Equal) (IsExprUntil k.Semicolon)) Anything
named_rest_definite = after_token k.Equal (until_definite k.Semicolon refl)

pub named_rest_has : HasText (Both (IsTerminal k.Equal) (IsExprUntil k.Semicolon))
named_rest_has = both_has (terminal_has k.Equal) (until_has k.Semicolon)

-- a formula
pub formula_definite : IsDefinite IsFormula Anything
formula_definite = made_definite formula_made (after_token k.Formula (both_closed name_definite named_rest_definite))

pub formula_starts : Starts IsFormula (λ t. t ≡ k.Formula)
formula_starts = made_starts formula_made (both_starts (terminal_starts k.Formula))

pub formula_has : HasText IsFormula
formula_has = made_has formula_made (both_has (terminal_has k.Formula) (both_has name_has named_rest_has))

-- a label
pub label_definite : IsDefinite IsLabel Anything
label_definite = made_definite label_made (after_token k.Label (both_closed quoted_definite named_rest_definite))

pub label_starts : Starts IsLabel (λ t. t ≡ k.Label)
label_starts = made_starts label_made (both_starts (terminal_starts k.Label))

pub label_has : HasText IsLabel
label_has = made_has label_made (both_has (terminal_has k.Label) (both_has quoted_has named_rest_has))

-- a range
pub range_parts_definite : IsDefinite (OneOf (Both (IsTerminal k.OpenBracket) (Both (IsExprUntil k.Dots) (IsExprUntil k.CloseBracket))) (IsTerminal k.Bool)) Anything
range_parts_definite =
    one_of_definite (after_token k.OpenBracket (both_closed (until_definite k.Dots refl) (until_definite k.CloseBracket refl))) (terminal_definite k.Bool)
    (starts_apart (both_starts (terminal_starts k.OpenBracket)) (terminal_starts k.Bool) (apart k.OpenBracket k.Bool (λ is. cc)))

pub range_definite : IsDefinite IsRange Anything
range_definite = made_definite is_made range_parts_definite

pub range_has : HasText IsRange
range_has = made_has is_made (first_has (both_has (terminal_has k.OpenBracket) (both_has (until_has k.Dots) (until_has k.CloseBracket))))

-- a variable
pub variable_rest_definite : IsDefinite (Both IsRange (IsOptionalEnded k.Init)) Anything
variable_rest_definite = both_closed range_definite (optional_definite k.Init (λ is. cc))

pub variable_rest_has : HasText (Both IsRange (IsOptionalEnded k.Init))
variable_rest_has = both_has range_has (optional_has k.Init)

pub variable_definite : IsDefinite IsVariable Anything
variable_definite = made_definite variable_made (both_closed name_definite (after_token k.Colon variable_rest_definite))

pub variable_starts : Starts IsVariable IsNameKind
variable_starts = made_starts variable_made (both_starts name_starts)

pub variable_has : HasText IsVariable
variable_has = made_has variable_made (both_has name_has (both_has (terminal_has k.Colon) variable_rest_has))

-- a global variable
pub global_definite : IsDefinite IsGlobal Anything
global_definite = made_definite global_made (after_token k.Global variable_definite)

pub global_starts : Starts IsGlobal (λ t. t ≡ k.Global)
global_starts = made_starts global_made (both_starts (terminal_starts k.Global))

pub global_has : HasText IsGlobal
global_has = made_has global_made (both_has (terminal_has k.Global) variable_has)

-- an assignment
pub assign_end_definite : IsDefinite (Both (IsTerminal k.Equal) (IsExprUntil k.Close)) Anything
assign_end_definite = after_token k.Equal (until_definite k.Close refl)

pub assign_end_has : HasText (Both (IsTerminal k.Equal) (IsExprUntil k.Close))
assign_end_has = both_has (terminal_has k.Equal) (until_has k.Close)

pub assign_definite : IsDefinite IsAssign Anything
assign_definite = made_definite assign_made (after_token k.Open (both_closed name_definite (after_token k.Prime assign_end_definite)))

pub assign_starts : Starts IsAssign (λ t. t ≡ k.Open)
assign_starts = made_starts assign_made (both_starts (terminal_starts k.Open))

pub assign_has : HasText IsAssign
assign_has = made_has assign_made (both_has (terminal_has k.Open) (both_has name_has (both_has (terminal_has k.Prime) assign_end_has)))

-- assignments joined by `&`
pub assigns_divide : Divides k.Ampersand IsAssign Anything (BeginsNot k.Ampersand)
assigns_divide = record { one = assign_definite; divider = λ r. tt; last = λ r follows. tt; apart = λ r follows. follows r refl }

-- an update
pub update_parts_definite : IsDefinite (OneOf (IsTerminal k.True) (Separated k.Ampersand IsAssign)) (BeginsNot k.Ampersand)
update_parts_definite =
    one_of_definite (narrowed (λ r follows. tt) (terminal_definite k.True)) (separated_definite assigns_divide)
    (starts_apart (terminal_starts k.True) (separated_starts assign_starts) (apart k.True k.Open (λ is. cc)))

pub update_definite : IsDefinite IsUpdate (BeginsNot k.Ampersand)
update_definite = made_definite update_made update_parts_definite

pub update_has : HasText IsUpdate
update_has = made_has update_made (first_has (terminal_has k.True))

pub update_starts : Starts IsUpdate (λ t. (t ≡ k.True) ⊎ (t ≡ k.Open))
update_starts = made_starts update_made (one_of_starts (terminal_starts k.True) (separated_starts assign_starts))

-- a branch with its weight
pub weighted_definite : IsDefinite IsWeighted (BeginsNot k.Ampersand)
weighted_definite = made_definite weighted_made (both_closed (until_definite k.Colon refl) update_definite)

pub weighted_has : HasText IsWeighted
weighted_has = made_has weighted_made (both_has (until_has k.Colon) update_has)

-- branches joined by `+`
pub branches_divide : Divides k.Plus IsWeighted (BeginsNot k.Ampersand) EndsBranches
branches_divide = record { one = weighted_definite; divider = λ r after is. cc; last = λ r follows. follows.0; apart = λ r follows. follows.1 r refl }

-- a semicolon may follow an update, and branches
pub semicolon_update : Leads (IsTerminal k.Semicolon) Anything (BeginsNot k.Ampersand)
semicolon_update = starts_lead (terminal_starts k.Semicolon) (λ t l is after equal. let never : k.Semicolon ≡ k.Ampersand = sym is ∙ (let same : t ≡ k.Ampersand = cc in same) in cc)

pub semicolon_branches : Leads (IsTerminal k.Semicolon) Anything EndsBranches
semicolon_branches = starts_lead (terminal_starts k.Semicolon) (λ t l is. (λ after equal. let same : t ≡ k.Ampersand = cc in let never : k.Semicolon ≡ k.Ampersand = sym is ∙ same in cc, λ after equal. let same : t ≡ k.Plus = cc in let never : k.Semicolon ≡ k.Plus = sym is ∙ same in cc))

-- an action in brackets
pub action_parts_definite : IsDefinite (OneOf (Both IsName (IsTerminal k.CloseBracket)) (IsTerminal k.CloseBracket)) Anything
action_parts_definite =
    one_of_definite (both_closed name_definite (terminal_definite k.CloseBracket)) (terminal_definite k.CloseBracket)
    (starts_apart (both_starts name_starts) (terminal_starts k.CloseBracket) (λ t first second. name_is k.CloseBracket t first second (λ text is. cc)))

pub action_definite : IsDefinite IsActionEnded Anything
action_definite = made_definite is_made action_parts_definite

pub action_has : HasText IsActionEnded
action_has = made_has is_made (first_has (both_has name_has (terminal_has k.CloseBracket)))

-- a pair
pub pair_definite : IsDefinite IsPair Anything
pair_definite = made_definite pair_made (both_closed name_definite (after_token k.Equal name_definite))

pub pair_has : HasText IsPair
pair_has = made_has pair_made (both_has name_has (both_has (terminal_has k.Equal) name_has))

pub pairs_divide : Divides k.Comma IsPair Anything (BeginsNot k.Comma)
pairs_divide = record { one = pair_definite; divider = λ r. tt; last = λ r follows. tt; apart = λ r follows. follows r refl }

-- the rest of a module that is a copy of another
pub renaming_end_definite : IsDefinite (Both (IsTerminal k.CloseBracket) (IsTerminal k.EndModule)) Anything
renaming_end_definite = after_token k.CloseBracket (terminal_definite k.EndModule)

pub renaming_end_has : HasText (Both (IsTerminal k.CloseBracket) (IsTerminal k.EndModule))
renaming_end_has = both_has (terminal_has k.CloseBracket) (terminal_has k.EndModule)

pub bracket_pairs : Leads (Both (IsTerminal k.CloseBracket) (IsTerminal k.EndModule)) Anything (BeginsNot k.Comma)
bracket_pairs = starts_lead (both_starts (terminal_starts k.CloseBracket)) (λ t l is after equal. let same : t ≡ k.Comma = cc in let never : k.CloseBracket ≡ k.Comma = sym is ∙ same in cc)

pub renaming_pairs_definite : IsDefinite (Both (Separated k.Comma IsPair) (Both (IsTerminal k.CloseBracket) (IsTerminal k.EndModule))) Anything
renaming_pairs_definite = both_definite (separated_definite pairs_divide) bracket_pairs renaming_end_definite

pub renaming_pairs_has : HasText (Both (Separated k.Comma IsPair) (Both (IsTerminal k.CloseBracket) (IsTerminal k.EndModule)))
renaming_pairs_has = both_has (separated_has pair_has) renaming_end_has

pub renaming_definite : IsDefinite IsRenaming Anything
renaming_definite = made_definite is_made (both_closed name_definite (after_token k.OpenBracket renaming_pairs_definite))

pub renaming_has : HasText IsRenaming
renaming_has = made_has is_made (both_has name_has (both_has (terminal_has k.OpenBracket) renaming_pairs_has))

-- a rewards block
pub rewards_definite : IsDefinite IsPassed Anything
rewards_definite = made_definite rewards_made (after_token k.Rewards ends_definite)

pub rewards_starts : Starts IsPassed (λ t. t ≡ k.Rewards)
rewards_starts = made_starts rewards_made (both_starts (terminal_starts k.Rewards))

pub rewards_has : HasText IsPassed
rewards_has = made_has rewards_made (both_has (terminal_has k.Rewards) ends_has)
