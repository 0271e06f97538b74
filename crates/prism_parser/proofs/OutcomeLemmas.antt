-- Tokens have one answer.
use Rattle.std.proofs.Common.{◌≡◌, ℕ, ◌<◌, ◌+◌, ◌-◌, List, length, drop, Some, ◌⊎◌, inl, inr, ⊎_elim, refl, sym, ◌∙◌, ap, subst, arith}
use Rattle.std.specs.Prelude.{Result, Ok, Err, slice_get, unwrap_or}
use Rattle.prism_syntax.specs.declared.tokens.Token.{Token}
use Rattle.prism_syntax.specs.Tokens.{kinds}
use Rattle.prism_limits.specs.declared.kinds.TextKind.{TextKind}
use Rattle.prism_limits.specs.Places.{IsFirst}
use Rattle.prism_limits.specs.Words.{word_of}
use Rattle.prism_parser.specs.declared.fault.ParseFault.{ParseFault}
use Rattle.prism_parser.specs.declared.fault.ParseFault.TheVariants.{Unsupported, TooDeep, NotInGrammar, OutOfMemory}
use Rattle.prism_parser.specs.Places.{place_of}
use Rattle.prism_parser.specs.Refusals.{IsAllowed, RefusesWord, RefusesNesting, RefusesGrammar, RefusesArrow, IsUnsupported, IsAccepted, by_name, arrow}
use Rattle.prism_parser.specs.Outcome.{RanOut, ComesWhere, Tells}

-- the grammar has one tree for the tokens or fails, at one token
pub record IsDecided {X : Type 0} (Found : X → Type 0) (Failed : ℕ → Type 0) : Type 0 where
  pub one : (x y : X) → Found x → Found y → x ≡ y
  pub apart : (x : X) (left : ℕ) → Found x → Failed left → ⊥
  pub same : (m n : ℕ) → Failed m → Failed n → m ≡ n

-- a property has one first index
first_same : (Has : ℕ → Type 0) (m n : ℕ) → IsFirst Has m → IsFirst Has n → m ≡ n
first_same Has m n x y = omega (arith, not_less, not_more)
  where
    not_less : m < n → ⊥
    not_less h = y.least m h x.has

    not_more : n < m → ⊥
    not_more h = x.least n h y.has

-- allowed tokens have no refused word
allowed_word : {text : TextKind} {tokens : List Token} {start : ℕ} {word : List ℕ} {at : ℕ} → IsAllowed text (kinds (drop start tokens)) → RefusesWord text tokens start word at → ⊥
allowed_word x y = x.words y.index y.first.has

-- nor one that is too deep
allowed_deep : {text : TextKind} {tokens : List Token} {start at : ℕ} → IsAllowed text (kinds (drop start tokens)) → RefusesNesting text tokens start at → ⊥
allowed_deep x y = x.nesting y.index y.first.has

-- where a word is refused, nesting is not
word_deep : {text : TextKind} {tokens : List Token} {start : ℕ} {word : List ℕ} {at place : ℕ} → RefusesWord text tokens start word at → RefusesNesting text tokens start place → ⊥
word_deep x y = y.words x.index x.first.has

-- one word is refused
words_same : {text : TextKind} {tokens : List Token} {start : ℕ} {v w : List ℕ} {at place : ℕ} → RefusesWord text tokens start v at → RefusesWord text tokens start w place → (v ≡ w) × (at ≡ place)
words_same {tokens = tokens} {start = start} x y =
    let same : x.index ≡ y.index = first_same _ _ _ x.first y.first in
    let stands : Some x.token ≡ Some y.token = sym x.stands ∙ ap (λ n. slice_get tokens (start + n)) same ∙ y.stands in
    let token : x.token ≡ y.token = ap (λ t. unwrap_or t x.token) stands in
    (sym x.word_is ∙ ap (λ t. word_of t.kind) token ∙ y.word_is, sym x.place ∙ ap (λ t. t.from) token ∙ y.place)

-- nesting is refused at one place
deep_same : {text : TextKind} {tokens : List Token} {start at place : ℕ} → RefusesNesting text tokens start at → RefusesNesting text tokens start place → at ≡ place
deep_same {tokens = tokens} {start = start} x y = sym x.place ∙ ap (λ n. place_of tokens (start + n)) (first_same _ _ _ x.first y.first) ∙ y.place

-- so is an arrow
arrows_same : {X : Type 0} {text : TextKind} {Found Long : X → Type 0} {tokens : List Token} {start at place : ℕ} → RefusesArrow text Found Long tokens start at → RefusesArrow text Found Long tokens start place → at ≡ place
arrows_same {tokens = tokens} {start = start} x y = sym x.place ∙ ap (λ n. place_of tokens (start + n)) (first_same _ _ _ x.first y.first) ∙ y.place

-- and the grammar
grammar_same : {X : Type 0} {text : TextKind} {Found : X → Type 0} {Failed : ℕ → Type 0} {tokens : List Token} {start at place : ℕ}
    → IsDecided Found Failed → RefusesGrammar text Failed tokens start at → RefusesGrammar text Failed tokens start place → at ≡ place
grammar_same {tokens = tokens} decided x y = sym x.place ∙ ap (λ n. place_of tokens (length tokens - n)) (decided.same x.left y.left x.failed y.failed) ∙ y.place

-- what is accepted has no long chain
accepted_arrow : {X : Type 0} {text : TextKind} {Found Long : X → Type 0} {Failed : ℕ → Type 0} {tokens : List Token} {start at : ℕ} {tree : X}
    → IsDecided Found Failed → RefusesArrow text Found Long tokens start at → IsAccepted text Found Long tokens start tree → ⊥
accepted_arrow {Long = Long} {tree = tree} decided x y = y.short (subst Long (decided.one x.tree tree x.found y.found) x.long)

-- nor a refused word
accepted_unsupported : {X : Type 0} {text : TextKind} {Found Long : X → Type 0} {Failed : ℕ → Type 0} {tokens : List Token} {start at : ℕ} {word : List ℕ} {tree : X}
    → IsDecided Found Failed → IsUnsupported text Found Long tokens start word at → IsAccepted text Found Long tokens start tree → ⊥
accepted_unsupported decided (by_name x) y = allowed_word y.allowed x
accepted_unsupported decided (arrow x) y = accepted_arrow decided x y

-- a refused word goes before nesting
unsupported_deep : {X : Type 0} {text : TextKind} {Found Long : X → Type 0} {tokens : List Token} {start at place : ℕ} {word : List ℕ}
    → IsUnsupported text Found Long tokens start word at → RefusesNesting text tokens start place → ⊥
unsupported_deep (by_name x) y = word_deep x y
unsupported_deep (arrow x) y = allowed_deep x.allowed y

-- and apart from the grammar
unsupported_grammar : {X : Type 0} {text : TextKind} {Found Long : X → Type 0} {Failed : ℕ → Type 0} {tokens : List Token} {start at place : ℕ} {word : List ℕ}
    → IsDecided Found Failed → IsUnsupported text Found Long tokens start word at → RefusesGrammar text Failed tokens start place → ⊥
unsupported_grammar decided (by_name x) y = allowed_word y.allowed x
unsupported_grammar decided (arrow x) y = decided.apart x.tree y.left x.found y.failed

-- one word is not supported
unsupported_same : {X : Type 0} {text : TextKind} {Found Long : X → Type 0} {tokens : List Token} {start at place : ℕ} {v w : List ℕ}
    → IsUnsupported text Found Long tokens start v at → IsUnsupported text Found Long tokens start w place → (v ≡ w) × (at ≡ place)
unsupported_same (by_name x) (by_name y) = words_same x y
unsupported_same (by_name x) (arrow y) = absurd (allowed_word y.allowed x)
unsupported_same (arrow x) (by_name y) = absurd (allowed_word x.allowed y)
unsupported_same (arrow x) (arrow y) = (refl, arrows_same x y)

-- an answer that is true of the tokens comes exactly where its fact holds: a tree
pub says_ok : {X : Type 0} (text : TextKind) (Found Long : X → Type 0) (Failed : ℕ → Type 0) (tokens : List Token) (start : ℕ) (answer : Result X ParseFault) (tree : X)
    → IsDecided Found Failed → Tells text Found Long Failed tokens start answer → ComesWhere answer (Ok tree) (IsAccepted text Found Long tokens start tree)
says_ok {X} text Found Long Failed tokens start answer tree decided told = record { only = λ is. subst (Tells text Found Long Failed tokens start) is told; always = always answer told }
  where
    always : (any : Result X ParseFault) → Tells text Found Long Failed tokens start any → IsAccepted text Found Long tokens start tree → (any ≡ Ok tree) ⊎ RanOut any
    always (Ok t) x y = inl (ap Ok (decided.one t tree x.found y.found))
    always (Err (Unsupported word at)) x y = absurd (accepted_unsupported decided x y)
    always (Err (TooDeep at)) x y = absurd (allowed_deep y.allowed x)
    always (Err (NotInGrammar at)) x y = absurd (decided.apart tree x.left y.found x.failed)
    always (Err (OutOfMemory fault)) x y = inr tt

-- a word that is not supported
pub says_unsupported : {X : Type 0} (text : TextKind) (Found Long : X → Type 0) (Failed : ℕ → Type 0) (tokens : List Token) (start : ℕ) (answer : Result X ParseFault) (word : List ℕ) (at : ℕ)
    → IsDecided Found Failed → Tells text Found Long Failed tokens start answer → ComesWhere answer (Err (Unsupported word at)) (IsUnsupported text Found Long tokens start word at)
says_unsupported {X} text Found Long Failed tokens start answer word at decided told = record { only = λ is. subst (Tells text Found Long Failed tokens start) is told; always = always answer told }
  where
    always : (any : Result X ParseFault) → Tells text Found Long Failed tokens start any → IsUnsupported text Found Long tokens start word at → (any ≡ Err (Unsupported word at)) ⊎ RanOut any
    always (Ok t) x y = absurd (accepted_unsupported decided y x)
    always (Err (Unsupported w place)) x y = let same = unsupported_same x y in inl (cc)
    always (Err (TooDeep place)) x y = absurd (unsupported_deep y x)
    always (Err (NotInGrammar place)) x y = absurd (unsupported_grammar decided y x)
    always (Err (OutOfMemory fault)) x y = inr tt

-- nesting that is too deep
pub says_too_deep : {X : Type 0} (text : TextKind) (Found Long : X → Type 0) (Failed : ℕ → Type 0) (tokens : List Token) (start : ℕ) (answer : Result X ParseFault) (at : ℕ)
    → Tells text Found Long Failed tokens start answer → ComesWhere answer (Err (TooDeep at)) (RefusesNesting text tokens start at)
says_too_deep {X} text Found Long Failed tokens start answer at told = record { only = λ is. subst (Tells text Found Long Failed tokens start) is told; always = always answer told }
  where
    always : (any : Result X ParseFault) → Tells text Found Long Failed tokens start any → RefusesNesting text tokens start at → (any ≡ Err (TooDeep at)) ⊎ RanOut any
    always (Ok t) x y = absurd (allowed_deep x.allowed y)
    always (Err (Unsupported w place)) x y = absurd (unsupported_deep x y)
    always (Err (TooDeep place)) x y = inl (ap (λ p. Err (TooDeep p)) (deep_same x y))
    always (Err (NotInGrammar place)) x y = absurd (allowed_deep x.allowed y)
    always (Err (OutOfMemory fault)) x y = inr tt

-- tokens that the grammar does not have
pub says_not_in_grammar : {X : Type 0} (text : TextKind) (Found Long : X → Type 0) (Failed : ℕ → Type 0) (tokens : List Token) (start : ℕ) (answer : Result X ParseFault) (at : ℕ)
    → IsDecided Found Failed → Tells text Found Long Failed tokens start answer → ComesWhere answer (Err (NotInGrammar at)) (RefusesGrammar text Failed tokens start at)
says_not_in_grammar {X} text Found Long Failed tokens start answer at decided told = record { only = λ is. subst (Tells text Found Long Failed tokens start) is told; always = always answer told }
  where
    always : (any : Result X ParseFault) → Tells text Found Long Failed tokens start any → RefusesGrammar text Failed tokens start at → (any ≡ Err (NotInGrammar at)) ⊎ RanOut any
    always (Ok t) x y = absurd (decided.apart t y.left x.found y.failed)
    always (Err (Unsupported w place)) x y = absurd (unsupported_grammar decided x y)
    always (Err (TooDeep place)) x y = absurd (allowed_deep y.allowed x)
    always (Err (NotInGrammar place)) x y = inl (ap (λ p. Err (NotInGrammar p)) (grammar_same decided x y))
    always (Err (OutOfMemory fault)) x y = inr tt

-- an answer that comes where its fact holds comes, unless memory ran out
came : {X : Type 0} {answer this : Result X ParseFault} {Fact : Type 0} → ComesWhere answer this Fact → Fact → (RanOut answer → ⊥) → answer ≡ this
came comes fact some = ⊎_elim (λ same. same) (λ out. absurd (some out)) (comes.always fact)

-- so one answer is true of the tokens, unless memory ran out
pub one_answer : {X : Type 0} (text : TextKind) (Found Long : X → Type 0) (Failed : ℕ → Type 0) (tokens : List Token) (start : ℕ) → IsDecided Found Failed → (a b : Result X ParseFault)
    → Tells text Found Long Failed tokens start a → Tells text Found Long Failed tokens start b → (RanOut a → ⊥) → (RanOut b → ⊥) → a ≡ b
one_answer text Found Long Failed tokens start decided a (Ok tree) x y some more = came (says_ok text Found Long Failed tokens start a tree decided x) y some
one_answer text Found Long Failed tokens start decided a (Err (Unsupported word at)) x y some more = came (says_unsupported text Found Long Failed tokens start a word at decided x) y some
one_answer text Found Long Failed tokens start decided a (Err (TooDeep at)) x y some more = came (says_too_deep text Found Long Failed tokens start a at x) y some
one_answer text Found Long Failed tokens start decided a (Err (NotInGrammar at)) x y some more = came (says_not_in_grammar text Found Long Failed tokens start a at decided x) y some
one_answer text Found Long Failed tokens start decided a (Err (OutOfMemory fault)) x y some more = absurd (more tt)
