-- What a walk along tokens keeps of the chains of arrows around its place.
use Rattle.std.specs.Prelude.{◌≡◌, ◌+◌, ℕ, List, [], ◌∷◌, ◌++◌, cond, Bool, true, false, Option, Some, None}
use Rattle.prism_syntax.specs.declared.tokens.Kind.{Kind}
use Rattle.prism_syntax.specs.declared.tokens.Kind.TheVariants as k
use Rattle.prism_limits.specs.declared.chains.Chains.{Chains}

-- an arrow
abbrev pub is_arrow : Kind → Bool
is_arrow k.Implies = true
is_arrow _ = false

-- the tokens begin with an arrow
abbrev pub begins_arrow : List Kind → Bool
begins_arrow (token ∷ tokens) = is_arrow token
begins_arrow [] = false

-- a token that an operand of a chain of arrows may have outside its parentheses
abbrev pub may_stand_in_operand : Kind → Bool
may_stand_in_operand k.Equivalent = true
may_stand_in_operand k.Bar = true
may_stand_in_operand k.Ampersand = true
may_stand_in_operand k.Bang = true
may_stand_in_operand k.Equal = true
may_stand_in_operand k.NotEqual = true
may_stand_in_operand k.Less = true
may_stand_in_operand k.LessEqual = true
may_stand_in_operand k.Greater = true
may_stand_in_operand k.GreaterEqual = true
may_stand_in_operand k.Plus = true
may_stand_in_operand k.Dash = true
may_stand_in_operand k.Star = true
may_stand_in_operand k.Slash = true
may_stand_in_operand k.True = true
may_stand_in_operand k.False = true
may_stand_in_operand k.Min = true
may_stand_in_operand k.Max = true
may_stand_in_operand (k.Name text) = true
may_stand_in_operand (k.Quoted text) = true
may_stand_in_operand (k.Whole value) = true
may_stand_in_operand (k.Real value) = true
may_stand_in_operand _ = false

-- whether a rewards block is open after a token
abbrev pub inside_after : Bool → Kind → Bool
inside_after inside k.Rewards = true
inside_after inside k.EndRewards = false
inside_after inside _ = inside

-- the last of some chains, or none
abbrev pub innermost : List (Option ℕ) → Option ℕ
innermost [] = None
innermost (x ∷ []) = x
innermost (x ∷ (y ∷ ys)) = innermost (y ∷ ys)

-- all but the last of some chains
abbrev pub outermost : List (Option ℕ) → List (Option ℕ)
outermost [] = []
outermost (x ∷ []) = []
outermost (x ∷ (y ∷ ys)) = x ∷ outermost (y ∷ ys)

-- a place: whether it is inside a rewards block, the index of the last arrow of the chain there, where one stands before
-- it, and those of the chains around its parentheses, the outermost first
pub record Place : Type 0 where
  pub inside : Bool
  pub last : Option ℕ
  pub around : List (Option ℕ)

-- the last arrow of the chain after one more token, which has this index and stands outside rewards blocks
abbrev pub last_after : Place → ℕ → Kind → Option ℕ
last_after place index k.Implies = Some index
last_after place index k.Open = None
last_after place index k.Close = innermost place.around
last_after place index token = cond (may_stand_in_operand token) place.last None

-- the chains around the parentheses after one more token
abbrev pub around_after : Place → Kind → List (Option ℕ)
around_after place k.Open = place.around ++ (place.last ∷ [])
around_after place k.Close = outermost place.around
around_after place token = place.around

-- the place after one more token, which has this index; in a rewards block only its end counts
abbrev pub step : Place → ℕ → Kind → Place
step place index token = record {
  inside = inside_after place.inside token;
  last = cond place.inside place.last (last_after place index token);
  around = cond place.inside place.around (around_after place token);
}

-- the place before all tokens
abbrev pub start : Place
start = record { inside = false; last = None; around = [] }

-- the place after some tokens, of which the first has this index
abbrev pub walk : Place → ℕ → List Kind → Place
walk place index [] = place
walk place index (token ∷ tokens) = walk (step place index token) (index + 1) tokens

-- the place that the code keeps
abbrev pub place_of : Chains → Place
place_of chains = record { inside = chains.inside; last = chains.last; around = chains.around.items }
