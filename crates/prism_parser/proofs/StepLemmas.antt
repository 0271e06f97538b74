-- What the steps of parsing tell, put together.
use Rattle.std.proofs.Common.{◌≡◌, ℕ, ◌+◌, List, ◌++◌, drop, Option, None, sym, subst}
use Rattle.std.specs.Prelude.{Result, Ok, Err}
use Rattle.prism_syntax.specs.declared.labels.Labels.{Labels}
use Rattle.prism_syntax.specs.declared.tokens.Kind.{Kind}
use Rattle.prism_syntax.specs.declared.tokens.Token.{Token}
use Rattle.prism_syntax.specs.Tokens.{kinds}
use Rattle.prism_limits.specs.declared.kinds.TextKind.{TextKind}
use Rattle.prism_limits.specs.Places.{IsFirst, Finds}
use Rattle.prism_limits.specs.Words.{HasRefusedWord}
use Rattle.prism_limits.specs.Nesting.{IsTooDeep}
use Rattle.prism_limits.specs.Arrows.{IsLaterArrow}
use Rattle.prism_parser.specs.declared.fault.ParseFault.{ParseFault}
use Rattle.prism_parser.specs.declared.fault.ParseFault.TheVariants.{Unsupported, TooDeep, NotInGrammar, OutOfMemory}
use Rattle.prism_parser.specs.Places.{place_of}
use Rattle.prism_parser.specs.Refusals.{labels_of, IsAllowed, RefusesNesting, IsUnsupported, by_name, arrow}
use Rattle.prism_parser.specs.Steps.{RefusesToken, RefusesTokens, TellsAllowed, RefusesChain, IsArrowRefusal, TellsChains}
use Rattle.prism_parser.specs.Outcome.{Tells}
use Rattle.prism_parser.proofs.PrefixLemmas.{first_whole}

-- the first word that is refused, and its token
pub told_word : {X : Type 0} (text : TextKind) (tokens asked : List Token) (start index : ℕ) (answer : Result X ParseFault) → asked ≡ drop start tokens
    → IsFirst (HasRefusedWord text (kinds asked)) index → RefusesToken tokens (start + index) answer → TellsAllowed text tokens start answer
told_word text tokens asked start index (Ok value) same first told = absurd told
told_word text tokens asked start index (Err (Unsupported word at)) same first told = record {
  index = index;
  first = subst (λ ts. IsFirst (HasRefusedWord text (kinds ts)) index) same first;
  token = told.0;
  stands = told.1;
  word_is = told.2;
  place = told.3;
}
told_word text tokens asked start index (Err (TooDeep at)) same first told = absurd told
told_word text tokens asked start index (Err (NotInGrammar at)) same first told = absurd told
told_word text tokens asked start index (Err (OutOfMemory fault)) same first told = tt

-- the first token that is too deep, where no word is refused
pub told_deep : (text : TextKind) (tokens asked : List Token) (start index at : ℕ) → asked ≡ drop start tokens → Finds (HasRefusedWord text (kinds asked)) None
    → IsFirst (IsTooDeep text (kinds asked)) index → at ≡ place_of tokens (start + index) → RefusesNesting text tokens start at
told_deep text tokens asked start index at same words first place = record {
  words = subst (λ ts. Finds (HasRefusedWord text (kinds ts)) None) same words;
  index = index;
  first = subst (λ ts. IsFirst (IsTooDeep text (kinds ts)) index) same first;
  place = sym place;
}

-- neither a refused word nor a token that is too deep
pub told_none : (text : TextKind) (tokens asked : List Token) (start : ℕ) → asked ≡ drop start tokens → Finds (HasRefusedWord text (kinds asked)) None
    → Finds (IsTooDeep text (kinds asked)) None → IsAllowed text (kinds (drop start tokens))
told_none text tokens asked start same words nesting = record {
  words = subst (λ ts. Finds (HasRefusedWord text (kinds ts)) None) same words;
  nesting = subst (λ ts. Finds (IsTooDeep text (kinds ts)) None) same nesting;
}

-- a refusal of tokens alone is a refusal
pub told_allowed : {X : Type 0} (text : TextKind) (Found Long : X → Type 0) (Failed : ℕ → Type 0) (tokens : List Token) (start : ℕ) (fault : ParseFault)
    → RefusesTokens text tokens start fault → Tells text Found Long Failed tokens start (Err fault)
told_allowed text Found Long Failed tokens start (Unsupported word at) told = by_name told
told_allowed text Found Long Failed tokens start (TooDeep at) told = told
told_allowed text Found Long Failed tokens start (NotInGrammar at) told = absurd told
told_allowed text Found Long Failed tokens start (OutOfMemory fault) told = tt

-- a refusal of a chain is a refusal, where each later arrow of a prefix stands in a long chain of the tree
pub told_chains : {X : Type 0} (text : TextKind) (Found Long : X → Type 0) (Failed : ℕ → Type 0) (tokens : List Token) (start : ℕ) (fault : ParseFault) (tree : X) (prefix rest : List Kind)
    → IsAllowed text (kinds (drop start tokens)) → Found tree → kinds (drop start tokens) ≡ prefix ++ rest → ((index : ℕ) → IsLaterArrow (labels_of text) prefix index → Long tree)
    → RefusesChain text tokens start prefix fault → Tells text Found Long Failed tokens start (Err fault)
told_chains text Found Long Failed tokens start (Unsupported word at) tree prefix rest allowed found cut law told =
    let arrow_is = told.1 in
    subst (λ w. IsUnsupported text Found Long tokens start w at) (sym told.0)
    (arrow (record {
      allowed = allowed;
      tree = tree;
      found = found;
      long = law arrow_is.index arrow_is.first.has;
      index = arrow_is.index;
      first = subst (λ ts. IsFirst (IsLaterArrow (labels_of text) ts) arrow_is.index) (sym cut) (first_whole prefix rest arrow_is.first);
      place = arrow_is.place;
    }))
told_chains text Found Long Failed tokens start (TooDeep at) tree prefix rest allowed found cut law told = absurd told
told_chains text Found Long Failed tokens start (NotInGrammar at) tree prefix rest allowed found cut law told = absurd told
told_chains text Found Long Failed tokens start (OutOfMemory fault) tree prefix rest allowed found cut law told = tt

-- the second arrow of a chain, and its place
pub told_arrow : {X : Type 0} (text : TextKind) (tokens : List Token) (start index : ℕ) (prefix : List Kind) (answer : Result X ParseFault)
    → IsFirst (IsLaterArrow (labels_of text) prefix) index → IsArrowRefusal tokens (start + index) answer → TellsChains text tokens start prefix answer
told_arrow text tokens start index prefix (Ok value) first told = absurd told
told_arrow text tokens start index prefix (Err (Unsupported word at)) first told = (told.0, record { index = index; first = first; place = told.1 })
told_arrow text tokens start index prefix (Err (TooDeep at)) first told = absurd told
told_arrow text tokens start index prefix (Err (NotInGrammar at)) first told = absurd told
told_arrow text tokens start index prefix (Err (OutOfMemory fault)) first told = tt

-- what was found of the arrows of a text
pub told_found : (labels other : Labels) (prefix : List Kind) (found this : Option ℕ) → labels ≡ other → Finds (IsLaterArrow labels prefix) found → found ≡ this → Finds (IsLaterArrow other prefix) this
told_found labels other prefix found this same finds is = subst (λ l. Finds (IsLaterArrow l prefix) this) same (subst (λ o. Finds (IsLaterArrow labels prefix) o) is finds)
