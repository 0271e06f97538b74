-- The sort of a constant.
use Rattle.std.proofs.Common.{◌≡◌, ℕ, ◌<◌, List, [], ◌∷◌, ◌++◌, length, Some, None, refl, sym, ◌∙◌, ap, arith}
use Rattle.prism_syntax.specs.declared.tokens.Kind.{Kind}
use Rattle.prism_syntax.specs.declared.tokens.Kind.TheVariants as k
use Rattle.prism_syntax.specs.declared.tokens.Token.{Token}
use Rattle.prism_syntax.specs.declared.models.SortWord.{SortWord}
use Rattle.prism_syntax.specs.Tokens.{kinds}
use Rattle.prism_reading.specs.Reading.{Anything, Parses, Fails}
use Rattle.prism_reading.specs.Sequences.{IsName}
use Rattle.prism_reading.proofs.DefiniteLemmas.{found, misses, kinds_cut, name_starts, name_has}
use Rattle.prism_model.specs.Parts.{IsSortWord, word, sort_of}
use Rattle.prism_model.proofs.DefiniteLineLemmas.{word_definite, word_has, word_starts, IsSortKind, no_sort_name}

-- a token that is a sort is found
pub sort_found : (ts rest : List Token) (first : Token) (s : SortWord) → ts ≡ first ∷ rest → sort_of first.kind ≡ Some s → Parses IsSortWord Anything ts s rest (length rest)
sort_found ts rest first s cut is = found ts (first ∷ []) rest s word_definite cut (word is) tt

-- another token is none
pub no_sort : (ts rest : List Token) (first : Token) → ts ≡ first ∷ rest → sort_of first.kind ≡ None → Fails IsSortWord Anything ts (length ts)
no_sort ts rest first cut is = misses ts word_starts word_has (λ t l equal sort.
    let whole : kinds ts ≡ first.kind ∷ kinds rest = ap kinds cut in
    let same : t ≡ first.kind = cc in
    let never : Some sort.0 ≡ None = sym sort.1 ∙ ap sort_of same ∙ is in
    cc)

pub no_sort_at_end : (ts : List Token) → length ts < 1 → Fails IsSortWord Anything ts (length ts)
no_sort_at_end [] short = misses [] word_starts word_has (λ t l equal sort. cc)
no_sort_at_end (t ∷ ts) short = absurd (omega arith)

first_is : (p r : List Kind) (t : Kind) (l : List Kind) (s : SortWord) → IsSortWord p s → p ++ r ≡ t ∷ l → (IsSortKind t → ⊥) → ⊥
first_is _ r t l s (word {t = u} is) equal none =
    let same : u ≡ t = cc in
    none (s, ap sort_of (sym same) ∙ is)

-- where a sort begins the tokens, no name does
pub sort_first : {ts rest : List Token} {s : SortWord} {m : ℕ} → Parses IsSortWord Anything ts s rest m → Fails IsName Anything ts (length ts)
sort_first {ts} {rest} one = misses ts name_starts name_has (λ t l equal name. first_is (kinds one.prefix) (kinds rest) t l _ one.text (sym (kinds_cut one) ∙ equal) (λ sort. no_sort_name t sort name))

-- a token that is none of the three
pub no_word : (t : Kind) → (t ≡ k.Int → ⊥) → (t ≡ k.Double → ⊥) → (t ≡ k.Bool → ⊥) → sort_of t ≡ None
no_word k.Int int double bool = absurd (int refl)
no_word k.Double int double bool = absurd (double refl)
no_word k.Bool int double bool = absurd (bool refl)
no_word _ int double bool = refl
