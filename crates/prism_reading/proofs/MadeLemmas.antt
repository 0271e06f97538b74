-- Rules whose texts are those of another, with trees made from its trees.
use Rattle.std.proofs.Common.{◌≡◌, ℕ, List, [], ◌∷◌, ◌++◌, refl, sym, ◌∙◌, ap}
use Rattle.prism_syntax.specs.declared.tokens.Kind.{Kind}
use Rattle.prism_syntax.specs.declared.tokens.Token.{Token}
use Rattle.prism_syntax.specs.Tokens.{kinds}
use Rattle.prism_reading.specs.Reach.{IsPrefix, IsReach}
use Rattle.prism_reading.specs.Reading.{Parses, Fails}
use Rattle.prism_reading.specs.Sequences.{Made}
use Rattle.prism_reading.specs.Sequences as sequence
use Rattle.prism_reading.proofs.DefiniteLemmas.{IsDefinite, HasText, Starts}

-- the parts of a tree of a rule, with their text
pub record Parted {P Z : Type 0} (Parts : List Kind → P → Type 0) (make : P → Z) (a : List Kind) (z : Z) : Type 0 where
  pub parts : P
  pub text : Parts a parts
  pub is : z ≡ make parts

-- the texts of a rule are those of its parts, one after another
pub record IsMade {P Z : Type 0} (Parts : List Kind → P → Type 0) (make : P → Z) (Rule : List Kind → Z → Type 0) : Type 0 where
  pub to : (a : List Kind) (p : P) → Parts a p → Rule a (make p)
  pub back : (a : List Kind) (z : Z) → Rule a z → Parted Parts make a z

-- what begins the parts begins the rule
pub parts_begin : {P Z : Type 0} {Parts : List Kind → P → Type 0} {make : P → Z} {Rule : List Kind → Z → Type 0} {a : List Kind}
    → IsMade Parts make Rule → IsPrefix Parts a → IsPrefix Rule a
parts_begin {make} {a} made begins = record { more = begins.more; tree = make begins.tree; text = made.to (a ++ begins.more) begins.tree begins.text }

-- and the other way round
pub begins_parts : {P Z : Type 0} {Parts : List Kind → P → Type 0} {make : P → Z} {Rule : List Kind → Z → Type 0} {a : List Kind}
    → IsMade Parts make Rule → IsPrefix Rule a → IsPrefix Parts a
begins_parts {a} made begins =
    let parted = made.back (a ++ begins.more) begins.tree begins.text in
    record { more = begins.more; tree = parted.parts; text = parted.text }

reach_made : {P Z : Type 0} {Parts : List Kind → P → Type 0} {make : P → Z} {Rule : List Kind → Z → Type 0} {ts : List Kind} {left : ℕ}
    → IsMade Parts make Rule → IsReach (IsPrefix Parts) ts left → IsReach (IsPrefix Rule) ts left
reach_made made reach = record {
  prefix = reach.prefix;
  rest = reach.rest;
  cut = reach.cut;
  count = reach.count;
  begins = parts_begin made reach.begins;
  furthest = λ other after cut begins. reach.furthest other after cut (begins_parts made begins);
}

-- what is found of the parts is found of the rule
pub made_found : {P Z : Type 0} {Parts : List Kind → P → Type 0} {make : P → Z} {Rule : List Kind → Z → Type 0} {Follows : List Kind → Type 0} {ts rest : List Token} {p : P} {left : ℕ}
    → IsMade Parts make Rule → Parses Parts Follows ts p rest left → Parses Rule Follows ts (make p) rest left
made_found {p} made one = record {
  prefix = one.prefix;
  cut = one.cut;
  text = made.to (kinds one.prefix) p one.text;
  follows = one.follows;
  reach = reach_made made one.reach;
}

-- what is missing of the parts is missing of the rule
pub made_missing : {P Z : Type 0} {Parts : List Kind → P → Type 0} {make : P → Z} {Rule : List Kind → Z → Type 0} {Follows : List Kind → Type 0} {ts : List Token} {left : ℕ}
    → IsMade Parts make Rule → Fails Parts Follows ts left → Fails Rule Follows ts left
made_missing made fails = record {
  none = λ prefix after tree cut text follows.
      let parted = made.back prefix tree text in
      fails.none prefix after parted.parts cut parted.text follows;
  reach = reach_made made fails.reach;
}

-- where the parts are definite, the rule is
pub made_definite : {P Z : Type 0} {Parts : List Kind → P → Type 0} {make : P → Z} {Rule : List Kind → Z → Type 0} {Follows : List Kind → Type 0}
    → IsMade Parts make Rule → IsDefinite Parts Follows → IsDefinite Rule Follows
made_definite {make} made definite = record {
  agrees = λ a b r s x y first second here there equal.
      let one = made.back a x first in
      let two = made.back b y second in
      let same = definite.agrees a b r s one.parts two.parts one.text two.text here there equal in
      (same.0, one.is ∙ ap make same.1 ∙ sym two.is);
  stops = λ a r p after x text follows equal begins.
      let one = made.back a x text in
      definite.stops a r p after one.parts one.text follows equal (begins_parts made begins);
}

pub made_has : {P Z : Type 0} {Parts : List Kind → P → Type 0} {make : P → Z} {Rule : List Kind → Z → Type 0} → IsMade Parts make Rule → HasText Parts → HasText Rule
made_has {make} made has = record { tokens = has.tokens; tree = make has.tree; text = made.to has.tokens has.tree has.text }

pub made_starts : {P Z : Type 0} {Parts : List Kind → P → Type 0} {make : P → Z} {Rule : List Kind → Z → Type 0} {First : Kind → Type 0}
    → IsMade Parts make Rule → Starts Parts First → Starts Rule First
made_starts made starts = record {
  some = λ z text. let one = made.back [] z text in starts.some one.parts one.text;
  first = λ t a z text. let one = made.back (t ∷ a) z text in starts.first t a one.parts one.text;
}

unmade : {P Z : Type 0} {Parts : List Kind → P → Type 0} (make : P → Z) (a : List Kind) (z : Z) → Made make Parts a z → Parted Parts make a z
unmade make a _ (sequence.made {p} text) = record { parts = p; text = text; is = refl }

-- a rule with trees made from another's is one
pub is_made : {P Z : Type 0} {make : P → Z} {Parts : List Kind → P → Type 0} → IsMade Parts make (Made make Parts)
is_made {make} = record { to = λ a p text. sequence.made text; back = λ a z text. unmade make a z text }
