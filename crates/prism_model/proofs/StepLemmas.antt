-- One step of parsing a line: what is missing after a part that was found, and what is where the first token is another.
use Rattle.std.proofs.Common.{◌≡◌, ℕ, List, [], ◌∷◌, ◌++◌, length, Bool, Option, Some, None, Bor, refl, sym, ◌∙◌, ap, subst}
use Rattle.std.specs.Option.{MatchOption, is_some}
use Rattle.std.specs.Prelude.{MatchBool}
use Rattle.prism_syntax.specs.declared.tokens.Kind.{Kind}
use Rattle.prism_syntax.specs.declared.tokens.Token.{Token}
use Rattle.prism_syntax.specs.Tokens.{kinds}
use Rattle.prism_reading.specs.Reading.{Anything, Parses, Fails}
use Rattle.prism_reading.specs.Sequences.{IsTerminal, terminal, IsName, Both}
use Rattle.prism_reading.proofs.DefiniteLemmas.{IsDefinite, HasText, Starts, anything_leads, kinds_cut, misses, terminal_definite, terminal_has, terminal_starts, name_definite}
use Rattle.prism_reading.proofs.BothLemmas.{first_missing, second_missing}
use Rattle.prism_model.specs.Parts.{BeginsNot}

-- the first part is missing
pub here : {X Y : Type 0} {A : List Kind → X → Type 0} {B : List Kind → Y → Type 0} {Follows : List Kind → Type 0} {ts : List Token} {left : ℕ}
    → HasText B → Fails A Anything ts left → Fails (Both A B) Follows ts left
here has fails = first_missing has anything_leads fails

-- what follows a closed part is missing
pub later : {X Y : Type 0} {A : List Kind → X → Type 0} {B : List Kind → Y → Type 0} {Follows : List Kind → Type 0} {ts r : List Token} {x : X} {m left : ℕ}
    → IsDefinite A Anything → Parses A Anything ts x r m → Fails B Follows r left → Fails (Both A B) Follows ts left
later definite one fails = second_missing definite anything_leads one fails

-- what follows a token is missing
pub past : {Y : Type 0} {B : List Kind → Y → Type 0} {Follows : List Kind → Type 0} {t : Kind} {ts r : List Token} {m left : ℕ}
    → Parses (IsTerminal t) Anything ts tt r m → Fails B Follows r left → Fails (Both (IsTerminal t) B) Follows ts left
past {t} one fails = later (terminal_definite t) one fails

-- what follows a name is missing
pub past_name : {Y : Type 0} {B : List Kind → Y → Type 0} {Follows : List Kind → Type 0} {ts r : List Token} {text : List ℕ} {m left : ℕ}
    → Parses IsName Anything ts text r m → Fails B Follows r left → Fails (Both IsName B) Follows ts left
past_name one fails = later name_definite one fails

one_token : (t : Kind) (l : List Kind) (x : Unit {0}) → IsTerminal t l x → l ≡ t ∷ []
one_token t _ _ terminal = refl

-- the tokens begin with one that was found
pub begin_with : {t : Kind} {ts rest : List Token} {m : ℕ} → Parses (IsTerminal t) Anything ts tt rest m → kinds ts ≡ t ∷ kinds rest
begin_with {t} {rest} one = kinds_cut one ∙ ap (λ l. l ++ kinds rest) (one_token t (kinds one.prefix) tt one.text)

-- a rule is missing where the tokens begin with one with which it does not
pub otherwise : {X : Type 0} {Rule : List Kind → X → Type 0} {First : Kind → Type 0} {Follows : List Kind → Type 0} {ts : List Token} (t : Kind) (l : List Kind)
    → kinds ts ≡ t ∷ l → Starts Rule First → HasText Rule → (First t → ⊥) → Fails Rule Follows ts (length ts)
otherwise {First} {ts} t l begins starts has differ = misses ts starts has (λ u m cut first. let same : u ≡ t = cc in differ (subst First same first))

-- a token is missing where the tokens do not begin with it
pub no_token : {t : Kind} {Follows : List Kind → Type 0} (ts : List Token) → BeginsNot t (kinds ts) → Fails (IsTerminal t) Follows ts (length ts)
no_token {t} ts none = misses ts (terminal_starts t) (terminal_has t) (λ u l cut is. none l (cut ∙ ap (λ v. v ∷ l) is))

-- whether a token was seen
pub accepted : (t : Kind) (ts : List Token) (seen : Option (Bor (List Token))) (result : Bool)
    → MatchOption seen (BeginsNot t (kinds ts)) (λ rest. Parses (IsTerminal t) Anything ts tt rest.now (length rest.now)) → result ≡ is_some seen
    → MatchBool result (BeginsNot t (kinds ts) → ⊥) (BeginsNot t (kinds ts))
accepted t ts None result tells is = subst (λ b. MatchBool b (BeginsNot t (kinds ts) → ⊥) (BeginsNot t (kinds ts))) (sym is) tells
accepted t ts (Some rest) result tells is = subst (λ b. MatchBool b (BeginsNot t (kinds ts) → ⊥) (BeginsNot t (kinds ts))) (sym is) (λ none. none _ (begin_with tells))
