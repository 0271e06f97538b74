-- How far tokens begin a text of a rule of the grammar.
use Rattle.std.specs.Prelude.{◌≡◌, ℕ, ◌≤◌, List, ◌++◌, length}
use Rattle.prism_syntax.specs.declared.tokens.Kind.{Kind}

-- the tokens are a prefix of a text of the rule
pub record IsPrefix {X : Type 0} (Rule : List Kind → X → Type 0) (tokens : List Kind) : Type 0 where
  pub more : List Kind
  pub tree : X
  pub text : Rule (tokens ++ more) tree

-- so many tokens are left after the longest prefix of them that begins something
pub record IsReach (Begins : List Kind → Type 0) (tokens : List Kind) (left : ℕ) : Type 0 where
  pub prefix : List Kind
  pub rest : List Kind
  pub cut : tokens ≡ prefix ++ rest
  pub count : length rest ≡ left
  pub begins : Begins prefix
  pub furthest : (other after : List Kind) → tokens ≡ other ++ after → Begins other → left ≤ length after
