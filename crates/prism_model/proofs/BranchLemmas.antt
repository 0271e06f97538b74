-- The branches of a command: an update alone, or branches with their weights, told apart by at most three tokens.
use Rattle.std.proofs.Common.{◌≡◌, ◌⊎◌, inl, inr, ⊎_elim, ℕ, ◌≤◌, List, [], ◌∷◌, ◌++◌, length, Bool, true, false, Option, Some, None, Bor, refl, sym, ◌∙◌, ap, subst, arith, length-append, append_assoc}
use Rattle.std.specs.Option.{MatchOption, is_some}
use Rattle.std.specs.Prelude.{MatchBool}
use Rattle.prism_syntax.specs.declared.tokens.Kind.{Kind}
use Rattle.prism_syntax.specs.declared.tokens.Kind.TheVariants as k
use Rattle.prism_syntax.specs.declared.tokens.Token.{Token}
use Rattle.prism_syntax.specs.declared.expressions.Expr.{Expr}
use Rattle.prism_syntax.specs.declared.commands.Branch.{Branch}
use Rattle.prism_syntax.specs.Tokens.{kinds}
use Rattle.prism_syntax.specs.Models.{IsAssign, IsUpdate, IsWeighted, Separated}
use Rattle.prism_syntax.specs.Models as model
use Rattle.prism_reading.specs.Reach.{IsPrefix}
use Rattle.prism_reading.specs.Reading.{Anything, Parses, Fails}
use Rattle.prism_reading.specs.Sequences.{IsTerminal, terminal, both, OneOf}
use Rattle.prism_reading.proofs.DefiniteLemmas.{IsDefinite, HasText, terminal_definite, terminal_has}
use Rattle.prism_reading.proofs.BothLemmas.{both_definite, both_has}
use Rattle.prism_reading.proofs.MadeLemmas.{made_definite, made_has, made_missing}
use Rattle.prism_reading.proofs.OneOfLemmas.{Apart, one_of_definite, first_has, first_chosen, second_chosen}
use Rattle.prism_reading.proofs.SeparatedLemmas.{separated_definite}
use Rattle.prism_model.specs.Parts.{AreBranchesEnded, BeginsNot, BeginsTarget, target, BeginsUpdate, nothing, assigns}
use Rattle.prism_model.proofs.ForeignLemmas.{Lacks, no_prime, no_semicolon}
use Rattle.prism_model.proofs.ExpressionLemmas.{atom_text, paren_text}
use Rattle.prism_model.proofs.LineLemmas.{AloneEnded, SeveralEnded, branches_made}
use Rattle.prism_model.proofs.DefiniteLineLemmas.{update_definite, update_has, semicolon_update, branches_divide, semicolon_branches}
use Rattle.prism_model.proofs.StepLemmas.{begin_with}

-- tokens with which an update alone and a branch with its weight begin
pub data Short : List Kind → Type 0 where
  none : Short []
  truth : Short (k.True ∷ [])
  open_only : Short (k.Open ∷ [])
  named : {n : List ℕ} → Short (k.Open ∷ (k.Name n ∷ []))

short_length : (p : List Kind) → Short p → length p ≤ 2
short_length _ none = omega arith
short_length _ truth = omega arith
short_length _ open_only = omega arith
short_length _ named = omega arith

-- a prefix of what begins as an update does begins so itself, or is as short as that
pub short : (p after l : List Kind) → BeginsUpdate l → l ≡ p ++ after → ((more : List Kind) → BeginsUpdate (p ++ more)) ⊎ Short p
short [] after _ begins equal = inr none
short (t ∷ []) after _ (nothing {rest}) equal = let is : t ≡ k.True = cc in inr (rw is truth)
short (t ∷ (u ∷ p)) after _ (nothing {rest}) equal =
    let is : t ≡ k.True = cc in
    let then : u ≡ k.Semicolon = cc in
    inl (λ more. rw (is, then) nothing)
short (t ∷ []) after _ (assigns (target {name} {rest})) equal = let is : t ≡ k.Open = cc in inr (rw is open_only)
short (t ∷ (u ∷ [])) after _ (assigns (target {name} {rest})) equal =
    let is : t ≡ k.Open = cc in
    let then : u ≡ k.Name name = cc in
    inr (rw (is, then) named)
short (t ∷ (u ∷ (v ∷ p))) after _ (assigns (target {name} {rest})) equal =
    let is : t ≡ k.Open = cc in
    let then : u ≡ k.Name name = cc in
    let last : v ≡ k.Prime = cc in
    inl (λ more. rw (is, then, last) (assigns target))

-- no weight begins as an update does
no_weight : (a m l : List Kind) → Lacks k.Prime a → Lacks k.Semicolon a → BeginsUpdate l → l ≡ a ++ (k.Colon ∷ m) → ⊥
no_weight [] m _ prime semicolon (nothing {rest}) equal = cc
no_weight (t ∷ []) m _ prime semicolon (nothing {rest}) equal = cc
no_weight (t ∷ (u ∷ a)) m _ prime semicolon (nothing {rest}) equal = semicolon.1.0 (cc)
no_weight [] m _ prime semicolon (assigns (target {name} {rest})) equal = cc
no_weight (t ∷ []) m _ prime semicolon (assigns (target {name} {rest})) equal = cc
no_weight (t ∷ (u ∷ [])) m _ prime semicolon (assigns (target {name} {rest})) equal = cc
no_weight (t ∷ (u ∷ (v ∷ a))) m _ prime semicolon (assigns (target {name} {rest})) equal = prime.1.1.0 (cc)

weighted_differs : (l r : List Kind) (z : Branch) → IsWeighted l z → BeginsUpdate (l ++ r) → ⊥
weighted_differs _ r _ (model.IsWeighted.weighted {a} {b} {x} weight update) begins =
    no_weight a (b ++ r) ((a ++ (k.Colon ∷ b)) ++ r) (no_prime a x weight) (no_semicolon a x weight) begins (append_assoc a (k.Colon ∷ b) r)

separated_differs : (l r : List Kind) (z : List Branch) → Separated k.Plus IsWeighted l z → BeginsUpdate (l ++ r) → ⊥
separated_differs _ r _ (model.Separated.one {a} {x} first) begins = weighted_differs a r x first begins
separated_differs _ r _ (model.Separated.more {a} {b} {x} first others) begins =
    weighted_differs a ((k.Plus ∷ b) ++ r) x first (subst BeginsUpdate (append_assoc a (k.Plus ∷ b) r) begins)

-- nor do branches with their weights
pub several_differ : (l r : List Kind) (z : List Branch × Unit {0}) → SeveralEnded l z → BeginsUpdate (l ++ r) → ⊥
several_differ _ r _ (both {a} {b} {x} several last) begins = separated_differs a (b ++ r) x several (subst BeginsUpdate (append_assoc a b r) begins)

assigns_target : (l r : List Kind) (z : List (List ℕ × Expr)) → Separated k.Ampersand IsAssign l z → BeginsTarget (l ++ r)
assigns_target _ r _ (model.Separated.one (model.IsAssign.assign text)) = target
assigns_target _ r _ (model.Separated.more (model.IsAssign.assign text) others) = target

-- an update with its semicolon does
pub alone_begins : (l r : List Kind) (z : List (List ℕ × Expr) × Unit {0}) → AloneEnded l z → BeginsUpdate (l ++ r)
alone_begins _ r _ (both model.IsUpdate.nothing terminal) = nothing
alone_begins _ r _ (both {a} {x = s} (model.IsUpdate.assigns text) terminal) =
    subst BeginsUpdate (sym (append_assoc a (k.Semicolon ∷ []) r)) (assigns (assigns_target a (k.Semicolon ∷ r) s text))

update_length : (l : List Kind) → BeginsUpdate l → 2 ≤ length l
update_length _ nothing = omega arith
update_length _ (assigns target) = omega arith

alone_length : (l : List Kind) (z : List (List ℕ × Expr) × Unit {0}) → AloneEnded l z → 2 ≤ length l
alone_length l z text = omega (arith, update_length (l ++ []) (alone_begins l [] z text), length-append l [])

weighted_length : (l : List Kind) (z : Branch) → IsWeighted l z → 1 ≤ length l
weighted_length _ _ (model.IsWeighted.weighted {a} {b} weight update) = omega (arith, length-append a (k.Colon ∷ b))

separated_length : (l : List Kind) (z : List Branch) → Separated k.Plus IsWeighted l z → 1 ≤ length l
separated_length _ _ (model.Separated.one {a} {x} first) = weighted_length a x first
separated_length _ _ (model.Separated.more {a} {b} {x} first others) = omega (arith, length-append a (k.Plus ∷ b))

several_length : (l : List Kind) (z : List Branch × Unit {0}) → SeveralEnded l z → 2 ≤ length l
several_length _ _ (both {a} {x} several terminal) = omega (arith, separated_length a x several, length-append a (k.Semicolon ∷ []))

-- what begins branches with weights does not begin as an update does, whatever follows
several_prefix : (p : List Kind) → IsPrefix SeveralEnded p → ((more : List Kind) → BeginsUpdate (p ++ more)) → ⊥
several_prefix p begins all =
    several_differ (p ++ begins.more) [] begins.tree begins.text (subst BeginsUpdate (sym (append_assoc p begins.more [])) (all (begins.more ++ [])))

-- what begins an update does, or is short
alone_prefix : (p : List Kind) → IsPrefix AloneEnded p → ((more : List Kind) → BeginsUpdate (p ++ more)) ⊎ Short p
alone_prefix p begins = short p (begins.more ++ []) ((p ++ begins.more) ++ []) (alone_begins (p ++ begins.more) [] begins.tree begins.text) (append_assoc p begins.more [])

-- an update alone and branches with weights are apart
pub branches_apart : Apart AloneEnded SeveralEnded Anything
branches_apart = record {
  never = λ a b r s x y f g here there equal. several_differ b s y g (subst BeginsUpdate equal (alone_begins a r x f));
  second_stops = λ a r p after x f follows equal begins.
      ⊎_elim (λ all. absurd (several_prefix p begins all))
      (λ short_p. omega (arith, short_length p short_p, alone_length a x f, ap length equal, length-append a r, length-append p after))
      (short p after (a ++ r) (alone_begins a r x f) equal);
  first_stops = λ b r p after y g follows equal begins.
      ⊎_elim (λ all. absurd (several_differ b r y g (subst BeginsUpdate (sym equal) (all after))))
      (λ short_p. omega (arith, short_length p short_p, several_length b y g, ap length equal, length-append b r, length-append p after))
      (alone_prefix p begins);
}

pub alone_definite : IsDefinite AloneEnded Anything
alone_definite = both_definite update_definite semicolon_update (terminal_definite k.Semicolon)

pub several_definite : IsDefinite SeveralEnded Anything
several_definite = both_definite (separated_definite branches_divide) semicolon_branches (terminal_definite k.Semicolon)

pub branches_parts_definite : IsDefinite (OneOf AloneEnded SeveralEnded) Anything
branches_parts_definite = one_of_definite alone_definite several_definite branches_apart

pub branches_definite : IsDefinite AreBranchesEnded Anything
branches_definite = made_definite branches_made branches_parts_definite

pub branches_has : HasText AreBranchesEnded
branches_has = made_has branches_made (first_has (both_has update_has (terminal_has k.Semicolon)))

-- short tokens begin both
short_alone : (p : List Kind) → Short p → IsPrefix AloneEnded p
short_alone _ none = record { more = k.True ∷ (k.Semicolon ∷ []); tree = ([], tt); text = both model.IsUpdate.nothing terminal }
short_alone _ truth = record { more = k.Semicolon ∷ []; tree = ([], tt); text = both model.IsUpdate.nothing terminal }
short_alone _ open_only = record {
  more = k.Name [] ∷ (k.Prime ∷ (k.Equal ∷ (k.True ∷ (k.Close ∷ (k.Semicolon ∷ [])))));
  tree = _;
  text = both (model.IsUpdate.assigns (model.Separated.one (model.IsAssign.assign {n = []} (atom_text k.True _ refl)))) terminal;
}
short_alone _ (named {n}) = record {
  more = k.Prime ∷ (k.Equal ∷ (k.True ∷ (k.Close ∷ (k.Semicolon ∷ []))));
  tree = _;
  text = both (model.IsUpdate.assigns (model.Separated.one (model.IsAssign.assign {n = n} (atom_text k.True _ refl)))) terminal;
}

short_several : (p : List Kind) → Short p → IsPrefix SeveralEnded p
short_several _ none = record {
  more = k.True ∷ (k.Colon ∷ (k.True ∷ (k.Semicolon ∷ [])));
  tree = _;
  text = both (model.Separated.one (model.IsWeighted.weighted (atom_text k.True _ refl) model.IsUpdate.nothing)) terminal;
}
short_several _ truth = record {
  more = k.Colon ∷ (k.True ∷ (k.Semicolon ∷ []));
  tree = _;
  text = both (model.Separated.one (model.IsWeighted.weighted (atom_text k.True _ refl) model.IsUpdate.nothing)) terminal;
}
short_several _ open_only =
    let paren = paren_text (k.Name []) _ refl in
    record {
      more = k.Name [] ∷ (k.Close ∷ (k.Colon ∷ (k.True ∷ (k.Semicolon ∷ []))));
      tree = _;
      text = both (model.Separated.one (model.IsWeighted.weighted paren.1 model.IsUpdate.nothing)) terminal;
    }
short_several _ (named {n}) =
    let paren = paren_text (k.Name n) _ refl in
    record {
      more = k.Close ∷ (k.Colon ∷ (k.True ∷ (k.Semicolon ∷ [])));
      tree = _;
      text = both (model.Separated.one (model.IsWeighted.weighted paren.1 model.IsUpdate.nothing)) terminal;
    }

-- where the tokens begin as an update does, what is missing of an update alone is missing of the branches
pub alone_missing : {ts : List Token} {left : ℕ} → BeginsUpdate (kinds ts) → Fails AloneEnded Anything ts left → Fails AreBranchesEnded Anything ts left
alone_missing {ts} begins fails =
    made_missing branches_made
    (first_chosen (λ p rest y cut text. several_differ p rest y text (subst BeginsUpdate cut begins))
    (λ p rest cut prefix. ⊎_elim (λ all. absurd (several_prefix p prefix all)) (λ is. short_alone p is) (short p rest (kinds ts) begins cut))
    fails)

-- elsewhere, what is missing of branches with weights
pub several_missing : {ts : List Token} {left : ℕ} → (BeginsUpdate (kinds ts) → ⊥) → Fails SeveralEnded Anything ts left → Fails AreBranchesEnded Anything ts left
several_missing {ts} other fails =
    made_missing branches_made
    (second_chosen (λ p rest x cut text. other (subst BeginsUpdate (sym cut) (alone_begins p rest x text)))
    (λ p rest cut prefix. ⊎_elim (λ all. absurd (other (subst BeginsUpdate (sym cut) (all rest)))) (λ is. short_several p is) (alone_prefix p prefix))
    fails)

-- without `'` after `(` and a name no assigned name begins the tokens
no_target : (tokens two : List Kind) (name : List ℕ) → BeginsTarget tokens → tokens ≡ k.Open ∷ (k.Name name ∷ two) → BeginsNot k.Prime two → ⊥
no_target _ two name (target {rest}) is other = other rest (cc)

-- what the token after `(` and a name tells
pub target_seen : (tokens one two : List Token) (name : List ℕ) (seen : Option (Bor (List Token))) (result : Bool)
    → kinds tokens ≡ k.Open ∷ kinds one → kinds one ≡ k.Name name ∷ kinds two
    → MatchOption seen (BeginsNot k.Prime (kinds two)) (λ rest. Parses (IsTerminal k.Prime) Anything two tt rest.now (length rest.now)) → result ≡ is_some seen
    → MatchBool result (BeginsTarget (kinds tokens)) (BeginsTarget (kinds tokens) → ⊥)
target_seen tokens one two name None result first second third same =
    subst (λ b. MatchBool b (BeginsTarget (kinds tokens)) (BeginsTarget (kinds tokens) → ⊥)) (sym same)
    (λ begins. no_target (kinds tokens) (kinds two) name begins (first ∙ ap (λ l. k.Open ∷ l) second) third)
target_seen tokens one two name (Some rest) result first second third same =
    let is : kinds tokens ≡ k.Open ∷ (k.Name name ∷ (k.Prime ∷ kinds rest.now)) = first ∙ ap (λ l. k.Open ∷ l) (second ∙ ap (λ l. k.Name name ∷ l) (begin_with third)) in
    subst (λ b. MatchBool b (BeginsTarget (kinds tokens)) (BeginsTarget (kinds tokens) → ⊥)) (sym same) (subst BeginsTarget (sym is) target)

-- without `;` after `true` no update alone begins the tokens
no_end : (tokens rest : List Kind) → BeginsUpdate tokens → tokens ≡ k.True ∷ rest → BeginsNot k.Semicolon rest → ⊥
no_end _ rest (nothing {rest = more}) is other = other more (cc)
no_end _ rest (assigns target) is other = absurd (cc)

-- what the token after `true` tells
pub end_seen : (tokens rest : List Token) (seen : Option (Bor (List Token))) (result : Bool)
    → kinds tokens ≡ k.True ∷ kinds rest
    → MatchOption seen (BeginsNot k.Semicolon (kinds rest)) (λ more. Parses (IsTerminal k.Semicolon) Anything rest tt more.now (length more.now)) → result ≡ is_some seen
    → MatchBool result (BeginsUpdate (kinds tokens)) (BeginsUpdate (kinds tokens) → ⊥)
end_seen tokens rest None result first second same =
    subst (λ b. MatchBool b (BeginsUpdate (kinds tokens)) (BeginsUpdate (kinds tokens) → ⊥)) (sym same)
    (λ begins. no_end (kinds tokens) (kinds rest) begins first second)
end_seen tokens rest (Some more) result first second same =
    let is : kinds tokens ≡ k.True ∷ (k.Semicolon ∷ kinds more.now) = first ∙ ap (λ l. k.True ∷ l) (begin_with second) in
    subst (λ b. MatchBool b (BeginsUpdate (kinds tokens)) (BeginsUpdate (kinds tokens) → ⊥)) (sym same) (subst BeginsUpdate (sym is) nothing)

-- where no `true` begins an update alone, an assigned name does
target_begins : (tokens : List Kind) → BeginsNot k.True tokens → BeginsUpdate tokens → BeginsTarget tokens
target_begins _ other (nothing {rest}) = absurd (other (k.Semicolon ∷ rest) refl)
target_begins tokens other (assigns begins) = begins

pub update_seen : (tokens : List Kind) (result : Bool) → BeginsNot k.True tokens → MatchBool result (BeginsTarget tokens) (BeginsTarget tokens → ⊥)
    → MatchBool result (BeginsUpdate tokens) (BeginsUpdate tokens → ⊥)
update_seen tokens true other seen = assigns seen
update_seen tokens false other seen = λ begins. seen (target_begins tokens other begins)

-- without a name after `(` no assigned name begins the tokens
pub no_name_target : (tokens l : List Kind) (t : Kind) → tokens ≡ k.Open ∷ (t ∷ l) → ((text : List ℕ) → t ≡ k.Name text → ⊥) → BeginsTarget tokens → ⊥
no_name_target _ l t is other (target {name} {rest}) = other name (cc)
