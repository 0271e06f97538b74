-- Over an operand a walk keeps the chain at its place, and over an expression the chains around it.
use Rattle.std.proofs.Common.{◌≡◌, ◌≤◌, ◌+◌, ℕ, Bool, true, false, cond, List, [], ◌∷◌, ◌++◌, length, Option, Some, None, refl, sym, ap, subst, ◌∙◌, arith}
use Rattle.std.proofs.lemmas.List.{append_assoc}
use Rattle.std.proofs.lemmas.Option.{none-some}
use Rattle.prism_syntax.specs.declared.labels.Labels.{Labels}
use Rattle.prism_syntax.specs.declared.labels.Labels.TheVariants.{Allowed, Refused}
use Rattle.prism_syntax.specs.declared.tokens.Kind.{Kind}
use Rattle.prism_syntax.specs.declared.tokens.Kind.TheVariants as k
use Rattle.prism_syntax.specs.declared.expressions.Expr.{Expr}
use Rattle.prism_syntax.specs.declared.expressions.Func.{Func}
use Rattle.prism_syntax.specs.declared.expressions.Op.{Op}
use Rattle.prism_syntax.specs.declared.precedence.Precedence.{Precedence}
use Rattle.prism_syntax.specs.declared.precedence.Precedence.TheVariants as rule
use Rattle.prism_syntax.specs.Precedence.{inner, operator, is_sign, atom, function}
use Rattle.prism_syntax.specs.Expressions.{Derives, chain, bare, sign, plain, conditional, leaf, paren, call, ChainTail, end, link, Arguments, last, argument}
use Rattle.prism_expression.specs.Follow.{rank}
use Rattle.prism_expression.proofs.RankLemmas.{SignOf, bang, dash, sign_of, inner_binds}
use Rattle.prism_limits.specs.ChainWalk.{Place, step, walk, inside_after, last_after, around_after, innermost, outermost, may_stand_in_operand}

-- the last of some chains
pub innermost_push : (xs : List (Option ℕ)) (x : Option ℕ) → innermost (xs ++ (x ∷ [])) ≡ x
innermost_push [] x = refl
innermost_push (y ∷ []) x = refl
innermost_push (y ∷ (z ∷ zs)) x = innermost_push (z ∷ zs) x

-- and the others
pub outermost_push : (xs : List (Option ℕ)) (x : Option ℕ) → outermost (xs ++ (x ∷ [])) ≡ xs
outermost_push [] x = refl
outermost_push (y ∷ []) x = refl
outermost_push (y ∷ (z ∷ zs)) x = ap (λ us. y ∷ us) (outermost_push (z ∷ zs) x)

-- a walk over two parts
pub walk_append : (place : Place) (index : ℕ) (a b : List Kind) → walk place index (a ++ b) ≡ walk (walk place index a) (index + length a) b
walk_append place index [] b = let same : index ≡ index + 0 = omega arith in ap (λ m. walk place m b) same
walk_append place index (t ∷ a) b =
    let same : index + 1 + length a ≡ index + length (t ∷ a) = omega arith in
    walk_append (step place index t) (index + 1) a b ∙ ap (λ m. walk (walk (step place index t) (index + 1) a) m b) same

-- a step outside rewards blocks
pub step_outside : (place : Place) (index : ℕ) (t : Kind) → place.inside ≡ false
    → step place index t ≡ record { inside = inside_after false t; last = last_after place index t; around = around_after place t }
step_outside place index t outside =
    ap (λ (b : Bool). record { inside = inside_after b t; last = cond b place.last (last_after place index t); around = cond b place.around (around_after place t) }) outside

-- a walk has stayed outside rewards blocks, in the same parentheses, and on a level that binds more than arrows in the same chain
pub record Keeps (l : Precedence) (place next : Place) : Type 0 where
  pub inside : next.inside ≡ false
  pub around : next.around ≡ place.around
  pub last : 2 ≤ rank l → next.last ≡ place.last

-- one after another
keeps_both : {l : Precedence} {p q r : Place} → Keeps l p q → Keeps l q r → Keeps l p r
keeps_both first second = record { inside = second.inside; around = second.around ∙ first.around; last = λ binds. second.last binds ∙ first.last binds }

-- on a level that binds less
keeps_less : {l m : Precedence} {p q : Place} → rank l ≤ rank m → Keeps m p q → Keeps l p q
keeps_less below keeps = record { inside = keeps.inside; around = keeps.around; last = λ binds. keeps.last (omega arith) }

-- two parts
keeps_append : {l : Precedence} (a b : List Kind) (place : Place) (index : ℕ) → Keeps l place (walk place index a)
    → Keeps l (walk place index a) (walk (walk place index a) (index + length a) b) → Keeps l place (walk place index (a ++ b))
keeps_append {l = l} a b place index first second = subst (Keeps l place) (sym (walk_append place index a b)) (keeps_both first second)

-- a token that neither opens nor closes a parenthesis or a rewards block
abbrev is_quiet : Kind → Bool
is_quiet k.Open = false
is_quiet k.Close = false
is_quiet k.Rewards = false
is_quiet k.EndRewards = false
is_quiet _ = true

-- it keeps the parentheses
quiet_keeps : (place : Place) (t : Kind) → is_quiet t ≡ true → (inside_after false t ≡ false) × (around_after place t ≡ place.around)
quiet_keeps place k.Open is = absurd (cc)
quiet_keeps place k.Close is = absurd (cc)
quiet_keeps place k.Rewards is = absurd (cc)
quiet_keeps place k.EndRewards is = absurd (cc)
quiet_keeps place _ is = (refl, refl)

-- a token of an operand keeps the chain
standing_keeps : (place : Place) (index : ℕ) (t : Kind) → may_stand_in_operand t ≡ true → last_after place index t ≡ place.last
standing_keeps place index k.Implies is = absurd (cc)
standing_keeps place index k.Open is = absurd (cc)
standing_keeps place index k.Close is = absurd (cc)
standing_keeps place index t is = ap (λ (b : Bool). cond b place.last None) is

-- what a token keeps
abbrev IsKeeper : Precedence → Kind → Type 0
IsKeeper l t = (is_quiet t ≡ true) × (2 ≤ rank l → may_stand_in_operand t ≡ true)

keeps_token : {l : Precedence} (place : Place) (index : ℕ) (t : Kind) → place.inside ≡ false → IsKeeper l t → Keeps l place (step place index t)
keeps_token place index t outside keeper =
    let after = step_outside place index t outside in
    let quiet = quiet_keeps place t keeper.0 in
    record {
      inside = ap (λ (p : Place). p.inside) after ∙ quiet.0;
      around = ap (λ (p : Place). p.around) after ∙ quiet.1;
      last = λ binds. ap (λ (p : Place). p.last) after ∙ standing_keeps place index t (keeper.1 binds);
    }

-- an expression in parentheses keeps the chain around them
keeps_parens : {l : Precedence} (place middle : Place) (index later : ℕ) → place.inside ≡ false → Keeps rule.Conditional (step place index k.Open) middle → Keeps l place (step middle later k.Close)
keeps_parens place middle index later outside keeps =
    let opened = step_outside place index k.Open outside in
    let closed = step_outside middle later k.Close keeps.inside in
    let around : middle.around ≡ place.around ++ (place.last ∷ []) = keeps.around ∙ ap (λ (p : Place). p.around) opened in
    record {
      inside = ap (λ (p : Place). p.inside) closed;
      around = ap (λ (p : Place). p.around) closed ∙ ap outermost around ∙ outermost_push place.around place.last;
      last = λ binds. ap (λ (p : Place). p.last) closed ∙ ap innermost around ∙ innermost_push place.around place.last;
    }

-- signs are tokens of operands
sign_keeper : {l : Precedence} {t : Kind} → SignOf l t → IsKeeper l t
sign_keeper bang = (refl, λ binds. refl)
sign_keeper dash = (refl, λ binds. refl)

-- and so are operators but the arrow
operator_keeper : (l : Precedence) (t : Kind) (o : Op) → operator l t ≡ Some o → IsKeeper l t
operator_keeper rule.Implication k.Implies o found = (refl, λ binds. absurd (omega arith))
operator_keeper rule.Implication _ o found = absurd (none-some o found)
operator_keeper rule.Equivalence k.Equivalent o found = (refl, λ binds. refl)
operator_keeper rule.Equivalence _ o found = absurd (none-some o found)
operator_keeper rule.Disjunction k.Bar o found = (refl, λ binds. refl)
operator_keeper rule.Disjunction _ o found = absurd (none-some o found)
operator_keeper rule.Conjunction k.Ampersand o found = (refl, λ binds. refl)
operator_keeper rule.Conjunction _ o found = absurd (none-some o found)
operator_keeper rule.Equality k.Equal o found = (refl, λ binds. refl)
operator_keeper rule.Equality k.NotEqual o found = (refl, λ binds. refl)
operator_keeper rule.Equality _ o found = absurd (none-some o found)
operator_keeper rule.Relation k.Less o found = (refl, λ binds. refl)
operator_keeper rule.Relation k.LessEqual o found = (refl, λ binds. refl)
operator_keeper rule.Relation k.Greater o found = (refl, λ binds. refl)
operator_keeper rule.Relation k.GreaterEqual o found = (refl, λ binds. refl)
operator_keeper rule.Relation _ o found = absurd (none-some o found)
operator_keeper rule.Sum k.Plus o found = (refl, λ binds. refl)
operator_keeper rule.Sum k.Dash o found = (refl, λ binds. refl)
operator_keeper rule.Sum _ o found = absurd (none-some o found)
operator_keeper rule.Product k.Star o found = (refl, λ binds. refl)
operator_keeper rule.Product k.Slash o found = (refl, λ binds. refl)
operator_keeper rule.Product _ o found = absurd (none-some o found)
operator_keeper rule.Conditional _ o found = absurd (none-some o found)
operator_keeper rule.Negation _ o found = absurd (none-some o found)
operator_keeper rule.Unary _ o found = absurd (none-some o found)
operator_keeper rule.Primary _ o found = absurd (none-some o found)

-- and tokens that are expressions by themselves
atom_keeper : (labels : Labels) (t : Kind) (x : Expr) → atom labels t ≡ Some x → IsKeeper rule.Primary t
atom_keeper Allowed (k.Whole value) x found = (refl, λ binds. refl)
atom_keeper Allowed (k.Real value) x found = (refl, λ binds. refl)
atom_keeper Allowed k.True x found = (refl, λ binds. refl)
atom_keeper Allowed k.False x found = (refl, λ binds. refl)
atom_keeper Allowed (k.Name text) x found = (refl, λ binds. refl)
atom_keeper Allowed (k.Quoted text) x found = (refl, λ binds. refl)
atom_keeper Allowed _ x found = absurd (none-some x found)
atom_keeper Refused (k.Whole value) x found = (refl, λ binds. refl)
atom_keeper Refused (k.Real value) x found = (refl, λ binds. refl)
atom_keeper Refused k.True x found = (refl, λ binds. refl)
atom_keeper Refused k.False x found = (refl, λ binds. refl)
atom_keeper Refused (k.Name text) x found = (refl, λ binds. refl)
atom_keeper Refused _ x found = absurd (none-some x found)

-- and names of functions
function_keeper : (t : Kind) (f : Func) → function t ≡ Some f → IsKeeper rule.Primary t
function_keeper k.Min f found = (refl, λ binds. refl)
function_keeper k.Max f found = (refl, λ binds. refl)
function_keeper (k.Name text) f found = (refl, λ binds. refl)
function_keeper _ f found = absurd (none-some f found)

-- tokens between the parts of a conditional or of a call
between_keeper : (t : Kind) → is_quiet t ≡ true → IsKeeper rule.Conditional t
between_keeper t quiet = (quiet, λ binds. absurd (omega arith))

-- what stands in parentheses
enclosed_keeps : {l : Precedence} (a : List Kind) (place : Place) → place.inside ≡ false → (index : ℕ) → Keeps rule.Conditional (step place index k.Open) (walk (step place index k.Open) (index + 1) a)
    → Keeps l place (walk place index (k.Open ∷ (a ++ (k.Close ∷ []))))
enclosed_keeps {l = l} a place outside index keeps =
    let here = step place index k.Open in
    subst (Keeps l place) (sym (walk_append here (index + 1) a (k.Close ∷ []))) (keeps_parens place (walk here (index + 1) a) index (index + 1 + length a) outside keeps)

-- outside rewards blocks a parenthesis opens outside them
opened_outside : (place : Place) (index : ℕ) → place.inside ≡ false → (step place index k.Open).inside ≡ false
opened_outside place index outside = ap (λ (p : Place). p.inside) (step_outside place index k.Open outside)

mutual
  -- a text of a level
  pub text_keeps : {labels : Labels} {l : Precedence} {ks : List Kind} {x : Expr} → Derives labels l ks x → (place : Place) → place.inside ≡ false → (index : ℕ) → Keeps l place (walk place index ks)
  text_keeps {l = l} (chain {a = a} {b = b} is_true operand links) place outside index =
      let first = keeps_less (inner_binds l) (text_keeps operand place outside index) in
      keeps_append a b place index first (tail_keeps links (walk place index a) first.inside (index + length a))
  text_keeps {l = l} (bare is_true operand) place outside index = keeps_less (inner_binds l) (text_keeps operand place outside index)
  text_keeps {l = l} (sign {t = t} is_true operand) place outside index =
      let first : Keeps l place (step place index t) = keeps_token place index t outside (sign_keeper (sign_of l t is_true)) in
      keeps_both first (text_keeps operand (step place index t) first.inside (index + 1))
  text_keeps (plain first) place outside index = keeps_less (inner_binds rule.Conditional) (text_keeps first place outside index)
  text_keeps (conditional {a = a} {b = b} {c = c} one second third) place outside index =
      let first = keeps_less (inner_binds rule.Conditional) (text_keeps one place outside index) in
      let here = walk place index a in
      let at = index + length a in
      let query : Keeps rule.Conditional here (step here at k.Query) = keeps_token here at k.Query first.inside (between_keeper k.Query refl) in
      let there = step here at k.Query in
      let middle = keeps_less (inner_binds rule.Conditional) (text_keeps second there query.inside (at + 1)) in
      let beyond = walk there (at + 1) b in
      let on = at + 1 + length b in
      let colon : Keeps rule.Conditional beyond (step beyond on k.Colon) = keeps_token beyond on k.Colon middle.inside (between_keeper k.Colon refl) in
      let rest = keeps_both colon (text_keeps third (step beyond on k.Colon) colon.inside (on + 1)) in
      keeps_append a (k.Query ∷ (b ++ (k.Colon ∷ c))) place index first (keeps_both query (keeps_append b (k.Colon ∷ c) there (at + 1) middle rest))
  text_keeps {labels = labels} (leaf {t = t} {x = x} found) place outside index = keeps_token place index t outside (atom_keeper labels t x found)
  text_keeps (paren {a = a} inside) place outside index = enclosed_keeps a place outside index (text_keeps inside (step place index k.Open) (opened_outside place index outside) (index + 1))
  text_keeps (call {t = t} {f = f} {a = a} {b = b} found fits one parts) place outside index =
      let name : Keeps rule.Primary place (step place index t) = keeps_token place index t outside (function_keeper t f found) in
      let here = step place index t in
      let open_at = step here (index + 1) k.Open in
      let first = text_keeps one open_at (opened_outside here (index + 1) name.inside) (index + 1 + 1) in
      let both = keeps_append a b open_at (index + 1 + 1) first (arguments_keep parts (walk open_at (index + 1 + 1) a) first.inside (index + 1 + 1 + length a)) in
      keeps_both name (subst (λ ks. Keeps rule.Primary here (walk here (index + 1) (k.Open ∷ ks))) (append_assoc a b (k.Close ∷ [])) (enclosed_keeps (a ++ b) here name.inside (index + 1) both))

  -- further operands of a chain
  tail_keeps : {labels : Labels} {l : Precedence} {b : List Kind} {ys : List Expr} {os : List Op} → ChainTail labels l b ys os → (place : Place) → place.inside ≡ false → (index : ℕ) → Keeps l place (walk place index b)
  tail_keeps end place outside index = record { inside = outside; around = refl; last = λ binds. refl }
  tail_keeps {l = l} (link {t = t} {o = o} {a = a} {b = b} found operand links) place outside index =
      let first : Keeps l place (step place index t) = keeps_token place index t outside (operator_keeper l t o found) in
      let here = step place index t in
      let second = keeps_less (inner_binds l) (text_keeps operand here first.inside (index + 1)) in
      keeps_both first (keeps_append a b here (index + 1) second (tail_keeps links (walk here (index + 1) a) second.inside (index + 1 + length a)))

  -- further arguments of a call
  arguments_keep : {labels : Labels} {b : List Kind} {ys : List Expr} → Arguments labels b ys → (place : Place) → place.inside ≡ false → (index : ℕ) → Keeps rule.Conditional place (walk place index b)
  arguments_keep last place outside index = record { inside = outside; around = refl; last = λ binds. refl }
  arguments_keep (argument {a = a} {b = b} one parts) place outside index =
      let comma : Keeps rule.Conditional place (step place index k.Comma) = keeps_token place index k.Comma outside (between_keeper k.Comma refl) in
      let here = step place index k.Comma in
      let first = text_keeps one here comma.inside (index + 1) in
      keeps_both comma (keeps_append a b here (index + 1) first (arguments_keep parts (walk here (index + 1) a) first.inside (index + 1 + length a)))
