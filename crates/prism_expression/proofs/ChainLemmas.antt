-- A chain as its operands are parsed one after another.
use Rattle.std.proofs.Common.{◌≡◌, ℕ, ◌≤◌, min, true, List, [], ◌∷◌, ◌++◌, length, Some, refl, sym, ap, ◌∙◌, subst, ◌⊎◌, inl, inr, ⊎_elim, arith}
use Rattle.std.specs.Prelude.{IsSome}
use Rattle.std.proofs.lemmas.List.{append_assoc, append-nil, length-append}
use Rattle.prism_syntax.specs.declared.labels.Labels.{Labels}
use Rattle.prism_syntax.specs.declared.tokens.Kind.{Kind}
use Rattle.prism_syntax.specs.declared.expressions.Expr.{Expr}
use Rattle.prism_syntax.specs.declared.expressions.Op.{Op}
use Rattle.prism_syntax.specs.declared.precedence.Precedence.{Precedence}
use Rattle.prism_syntax.specs.Precedence.{inner, is_chain, operator}
use Rattle.prism_syntax.specs.Expressions.{Derives, chain, ChainTail, end, link, level}
use Rattle.prism_reading.specs.Reach.{IsPrefix}
use Rattle.prism_reading.proofs.ReachLemmas.{Begun, begun, begun_behind, begun_lesser, reach_begun, reach_same, cut_twice, heads, tails}
use Rattle.prism_expression.specs.Follow.{goes_on}
use Rattle.prism_expression.proofs.RankLemmas.{operand_stops}
use Rattle.prism_expression.proofs.TextLemmas.{ChainText, chain_text, chain_texts}
use Rattle.prism_expression.proofs.FoundLemmas.{Found, Missing, past_rest}
use Rattle.prism_expression.proofs.NextLemmas.{next_text}

-- tokens are a prefix of further operands of a chain
pub record BeginsTail (labels : Labels) (l : Precedence) (c : List Kind) : Type 0 where
  pub more : List Kind
  pub operands : List Expr
  pub operators : List Op
  pub tail : ChainTail labels l (c ++ more) operands operators

-- further operands begin with an operator, which goes on no operand before them
tail_stops : {labels : Labels} {l : Precedence} {c : List Kind} {ys : List Expr} {os : List Op} → is_chain l ≡ true → ChainTail labels l c ys os → (t : Kind) (d : List Kind) → c ≡ t ∷ d → goes_on (inner l) t ≡ true → ⊥
tail_stops is_true end t d is goes = cc
tail_stops {l = l} is_true (link {t = u} {o = o} found operand tail) t d is goes = operand_stops l u o is_true found (subst (λ v. goes_on (inner l) v ≡ true) (sym (heads is)) goes)

-- so do their prefixes
begun_stops : {labels : Labels} {l : Precedence} {c : List Kind} → is_chain l ≡ true → BeginsTail labels l c → (t : Kind) (d : List Kind) → c ≡ t ∷ d → goes_on (inner l) t ≡ true → ⊥
begun_stops is_true begins t d is goes = tail_stops is_true begins.tail t (d ++ begins.more) (ap (λ v. v ++ begins.more) is) goes

-- a further operand at the end
pub tail_more : {labels : Labels} {l : Precedence} {b : List Kind} {ys : List Expr} {os : List Op} (t : Kind) (o : Op) (a : List Kind) (y : Expr) → ChainTail labels l b ys os → operator l t ≡ Some o → Derives labels (inner l) a y
    → ChainTail labels l (b ++ (t ∷ a)) (ys ++ (y ∷ [])) (os ++ (o ∷ []))
tail_more {labels = labels} {l = l} t o a y end found text = subst (λ v. ChainTail labels l (t ∷ v) (y ∷ []) (o ∷ [])) (append-nil a) (link found text end)
tail_more {labels = labels} {l = l} t o a y (link {t = u} {o = p} {a = c} {b = d} {y = z} {ys = zs} {os = ps} is operand tail) found text =
    subst (λ v. ChainTail labels l (u ∷ v) (z ∷ (zs ++ (y ∷ []))) (p ∷ (ps ++ (o ∷ [])))) (sym (append_assoc c d (t ∷ a))) (link is operand (tail_more t o a y tail found text))

-- an operand begins a chain
pub operand_begins : {labels : Labels} {l : Precedence} {f : List Kind} → is_chain l ≡ true → IsPrefix (Derives labels (inner l)) f → IsPrefix (Derives labels l) f
operand_begins {labels = labels} {l = l} {f = f} is_true begins = record {
  more = begins.more;
  tree = begins.tree;
  text = subst (λ v. Derives labels l v begins.tree) (append-nil (f ++ begins.more)) (chain is_true begins.text end);
}

-- a prefix of a chain ends inside its first operand, or begins further operands after it
chain_prefixes : {labels : Labels} {l : Precedence} {ts rest : List Kind} {x : Expr} {n : ℕ} (f r : List Kind) → is_chain l ≡ true → Found (Derives labels (inner l)) ts x rest n
    → ts ≡ f ++ r → IsPrefix (Derives labels l) f → (n ≤ length r) ⊎ ((c : List Kind) × (rest ≡ c ++ r) × BeginsTail labels l c)
chain_prefixes {labels = labels} {l = l} {ts = ts} {rest = rest} {n = n} f r is_true told is begins = of (f ++ begins.more) begins.tree (chain_texts is_true begins.text) refl
  where
    of : (g : List Kind) (y : Expr) → ChainText labels l g y → f ++ begins.more ≡ g → (n ≤ length r) ⊎ ((c : List Kind) × (rest ≡ c ++ r) × BeginsTail labels l c)
    of g y (chain_text {a = a} {b = b} {x = z} {ys = ys} {os = os} operand tail) equal =
        ⊎_elim
        (λ within. inl (told.reach.furthest f r is (record { more = within.0; tree = z; text = subst (λ v. Derives labels (inner l) v z) within.1 operand })))
        (λ beyond.
        let rest_begins : BeginsTail labels l beyond.0 = record { more = begins.more; operands = ys; operators = os; tail = subst (λ v. ChainTail labels l v ys os) beyond.2 tail } in
        ⊎_elim (λ short. inl (omega (arith, short, past_rest told))) (λ next. inr (beyond.0, next, rest_begins))
        (next_text a beyond.0 r z told operand (is ∙ ap (λ v. v ++ r) beyond.1 ∙ append_assoc a beyond.0 r) (begun_stops is_true rest_begins)))
        (cut_twice f begins.more a b equal)

-- a chain is its first operand and further ones after it
chain_text_at : {labels : Labels} {l : Precedence} {ts rest : List Kind} {x : Expr} {n : ℕ} (f r : List Kind) (y : Expr) → is_chain l ≡ true → Found (Derives labels (inner l)) ts x rest n
    → ts ≡ f ++ r → ChainText labels l f y → (length rest ≤ length r) ⊎ ((c : List Kind) × (zs : List Expr) × (ps : List Op) × (rest ≡ c ++ r) × ChainTail labels l c zs ps)
chain_text_at f r y is_true told is (chain_text {a = a} {b = b} {x = z} {ys = ys} {os = os} operand tail) =
    ⊎_elim (λ short. inl short) (λ next. inr (b, ys, os, next, tail)) (next_text a b r z told operand (is ∙ append_assoc a b r) (tail_stops is_true tail))

-- the operands so far, and that each text and each prefix of one ends in them or goes on after them
pub record ChainSoFar (labels : Labels) (l : Precedence) (ts rest : List Kind) (n : ℕ) (x : Expr) (ys : List Expr) (os : List Op) : Type 0 where
  pub a : List Kind
  pub b : List Kind
  pub cut : ts ≡ (a ++ b) ++ rest
  pub operand : Derives labels (inner l) a x
  pub tail : ChainTail labels l b ys os
  pub texts : (f r : List Kind) (y : Expr) → ts ≡ f ++ r → Derives labels l f y
      → (length rest ≤ length r) ⊎ ((c : List Kind) × (zs : List Expr) × (ps : List Op) × (rest ≡ c ++ r) × ChainTail labels l c zs ps)
  pub begun : Begun (IsPrefix (Derives labels l)) ts n
  pub past : n ≤ length rest
  pub prefixes : (f r : List Kind) → ts ≡ f ++ r → IsPrefix (Derives labels l) f → (n ≤ length r) ⊎ ((c : List Kind) × (rest ≡ c ++ r) × BeginsTail labels l c)

-- no first operand
pub chain_missing : {labels : Labels} {l : Precedence} {ts : List Kind} {n : ℕ} → is_chain l ≡ true → Missing (Derives labels (inner l)) ts n → Missing (Derives labels l) ts n
chain_missing {labels = labels} {l = l} {ts = ts} is_true none = record {
  none = λ f r y is text. no_text f r y is (chain_texts is_true text);
  reach = reach_same (λ f begins. operand_begins is_true begins) (λ f r is begins. inside f r is begins (f ++ begins.more) begins.tree (chain_texts is_true begins.text) refl) none.reach;
}
  where
    no_text : (f r : List Kind) (y : Expr) → ts ≡ f ++ r → ChainText labels l f y → ⊥
    no_text f r y is (chain_text {a = a} {b = b} {x = z} operand tail) = none.none a (b ++ r) z (is ∙ append_assoc a b r) operand

    inside : (f r : List Kind) → ts ≡ f ++ r → (begins : IsPrefix (Derives labels l) f) → (g : List Kind) (y : Expr) → ChainText labels l g y → f ++ begins.more ≡ g → IsPrefix (Derives labels (inner l)) f
    inside f r is begins g y (chain_text {a = a} {b = b} {x = z} operand tail) equal =
        ⊎_elim
        (λ within. record { more = within.0; tree = z; text = subst (λ v. Derives labels (inner l) v z) within.1 operand })
        (λ beyond. absurd (none.none a (beyond.0 ++ r) z (is ∙ ap (λ v. v ++ r) beyond.1 ∙ append_assoc a beyond.0 r) operand))
        (cut_twice f begins.more a b equal)

-- the first operand
pub chain_first : {labels : Labels} {l : Precedence} {ts rest : List Kind} {x : Expr} {n : ℕ} → is_chain l ≡ true → Found (Derives labels (inner l)) ts x rest n → ChainSoFar labels l ts rest n x [] []
chain_first {rest = rest} is_true told = record {
  a = told.front;
  b = [];
  cut = told.cut ∙ ap (λ v. v ++ rest) (sym (append-nil told.front));
  operand = told.text;
  tail = end;
  texts = λ f r y is text. chain_text_at f r y is_true told is (chain_texts is_true text);
  begun = begun_behind [] refl (λ f begins. operand_begins is_true begins) (begun told.reach);
  past = past_rest told;
  prefixes = λ f r is begins. chain_prefixes f r is_true told is begins;
}

-- an operator and what begins an operand after it begin the chain
pub operator_begins : {labels : Labels} {l : Precedence} {f a b : List Kind} {x : Expr} {ys : List Expr} {os : List Op} (t : Kind) (o : Op) → is_chain l ≡ true → Derives labels (inner l) a x → ChainTail labels l b ys os
    → operator l t ≡ Some o → IsPrefix (Derives labels (inner l)) f → IsPrefix (Derives labels l) (((a ++ b) ++ (t ∷ [])) ++ f)
operator_begins {labels = labels} {l = l} {f = f} {a = a} {b = b} {x = x} {ys = ys} {os = os} t o is_true operand tail found begins = record {
  more = begins.more;
  tree = level x (ys ++ (begins.tree ∷ [])) (os ++ (o ∷ []));
  text = subst (λ v. Derives labels l v (level x (ys ++ (begins.tree ∷ [])) (os ++ (o ∷ []))))
      (sym (append_assoc a b (t ∷ (f ++ begins.more))) ∙ sym (append_assoc (a ++ b) (t ∷ []) (f ++ begins.more)) ∙ sym (append_assoc ((a ++ b) ++ (t ∷ [])) f begins.more))
      (chain is_true operand (tail_more t o (f ++ begins.more) begins.tree tail found begins.text));
}

-- one more operand
pub chain_next : {labels : Labels} {l : Precedence} {ts rest after next : List Kind} {n m : ℕ} {x y : Expr} {ys : List Expr} {os : List Op} (t : Kind) (o : Op)
    → is_chain l ≡ true → ChainSoFar labels l ts rest n x ys os → rest ≡ t ∷ after → operator l t ≡ Some o → Found (Derives labels (inner l)) after y next m
    → ChainSoFar labels l ts next (min n m) x (ys ++ (y ∷ [])) (os ++ (o ∷ []))
chain_next {labels = labels} {l = l} {ts = ts} {rest = rest} {after = after} {next = next} {n = n} {m = m} {y = y} t o is_true so_far rest_is found told = record {
  a = so_far.a;
  b = so_far.b ++ (t ∷ told.front);
  cut = so_far.cut ∙ ap (λ v. (so_far.a ++ so_far.b) ++ v) rest_cut ∙ sym (append_assoc (so_far.a ++ so_far.b) (t ∷ told.front) next) ∙ ap (λ v. v ++ next) (append_assoc so_far.a so_far.b (t ∷ told.front));
  operand = so_far.operand;
  tail = tail_more t o told.front y so_far.tail found told.text;
  texts = λ f r z is text. ⊎_elim (λ short. inl (omega (arith, short, shorter))) (λ tail. text_next r tail.0 tail.1 tail.2 tail.3 tail.4) (so_far.texts f r z is text);
  begun = begun_lesser n m so_far.begun
      (begun_behind ((so_far.a ++ so_far.b) ++ (t ∷ [])) (so_far.cut ∙ ap (λ v. (so_far.a ++ so_far.b) ++ v) rest_is ∙ sym (append_assoc (so_far.a ++ so_far.b) (t ∷ []) after))
      (λ f begins. operator_begins t o is_true so_far.operand so_far.tail found begins) (begun told.reach));
  past = omega (arith, past_rest told);
  prefixes = λ f r is begins. ⊎_elim (λ short. inl (omega (arith, short))) (λ tail. prefix_next r tail.0 tail.1 tail.2) (so_far.prefixes f r is begins);
}
  where
    rest_cut : rest ≡ (t ∷ told.front) ++ next
    rest_cut = rest_is ∙ ap (λ v. t ∷ v) told.cut

    shorter : length next ≤ length rest
    shorter = omega (arith, ap length rest_cut, length-append (t ∷ told.front) next)

    text_next : (r c : List Kind) (zs : List Expr) (ps : List Op) → rest ≡ c ++ r → ChainTail labels l c zs ps
        → (length next ≤ length r) ⊎ ((d : List Kind) × (us : List Expr) × (qs : List Op) × (next ≡ d ++ r) × ChainTail labels l d us qs)
    text_next r c zs ps equal end = inl (omega (arith, ap length equal, shorter))
    text_next r c zs ps equal (link {t = u} {a = a} {b = b} {y = z} {ys = us} {os = qs} is operand tail) =
        ⊎_elim (λ short. inl short) (λ beyond. inr (b, us, qs, beyond, tail))
        (next_text a b r z told operand (tails (sym rest_is ∙ equal) ∙ append_assoc a b r) (tail_stops is_true tail))

    linked : (r d more g : List Kind) (zs : List Expr) (ps : List Op) → after ≡ d ++ r → ChainTail labels l g zs ps → t ∷ (d ++ more) ≡ g
        → (min n m ≤ length r) ⊎ ((e : List Kind) × (next ≡ e ++ r) × BeginsTail labels l e)
    linked r d more g zs ps equal end is = absurd (cc)
    linked r d more g zs ps equal (link {t = u} {a = a} {b = b} {y = z} {ys = us} {os = qs} is_op operand tail) is =
        ⊎_elim
        (λ within. inl (omega (arith, told.reach.furthest d r equal (record { more = within.0; tree = z; text = subst (λ v. Derives labels (inner l) v z) within.1 operand }))))
        (λ beyond.
        let begins : BeginsTail labels l beyond.0 = record { more = more; operands = us; operators = qs; tail = subst (λ v. ChainTail labels l v us qs) beyond.2 tail } in
        ⊎_elim (λ short. inl (omega (arith, short, past_rest told))) (λ goes. inr (beyond.0, goes, begins))
        (next_text a beyond.0 r z told operand (equal ∙ ap (λ v. v ++ r) beyond.1 ∙ append_assoc a beyond.0 r) (begun_stops is_true begins)))
        (cut_twice d more a b (tails is))

    prefix_next : (r c : List Kind) → rest ≡ c ++ r → BeginsTail labels l c → (min n m ≤ length r) ⊎ ((d : List Kind) × (next ≡ d ++ r) × BeginsTail labels l d)
    prefix_next r [] equal begins = inl (omega (arith, ap length equal, so_far.past))
    prefix_next r (u ∷ d) equal begins =
        let both : t ∷ after ≡ u ∷ (d ++ r) = sym rest_is ∙ equal in
        linked r d begins.more (u ∷ (d ++ begins.more)) begins.operands begins.operators (tails both) begins.tail (ap (λ v. v ∷ (d ++ begins.more)) (heads both))

-- tokens that begin with no operator have no further operands
no_tail : {labels : Labels} {l : Precedence} {c : List Kind} {ys : List Expr} {os : List Op} → ((t : Kind) (o : Op) (d : List Kind) → c ≡ t ∷ d → operator l t ≡ Some o → ⊥) → ChainTail labels l c ys os → c ≡ []
no_tail none end = refl
no_tail none (link {t = t} {o = o} {a = a} {b = b} found operand tail) = absurd (none t o (a ++ b) refl found)

-- no operator follows
pub chain_end : {labels : Labels} {l : Precedence} {ts rest : List Kind} {n : ℕ} {x : Expr} {ys : List Expr} {os : List Op} → is_chain l ≡ true → ChainSoFar labels l ts rest n x ys os
    → ((t : Kind) (r : List Kind) → rest ≡ t ∷ r → IsSome (operator l t) → ⊥) → Found (Derives labels l) ts (level x ys os) rest n
chain_end {labels = labels} {l = l} {rest = rest} {n = n} is_true so_far none = record {
  front = so_far.a ++ so_far.b;
  cut = so_far.cut;
  text = chain is_true so_far.operand so_far.tail;
  longest = λ f r y is text. ⊎_elim (λ short. short) (λ tail. no_text r tail.0 tail.3 tail.4) (so_far.texts f r y is text);
  reach = reach_begun so_far.begun (λ f r is begins. ⊎_elim (λ short. short) (λ tail. no_prefix r tail.0 tail.1 tail.2) (so_far.prefixes f r is begins));
}
  where
    some : (t : Kind) (o : Op) → operator l t ≡ Some o → IsSome (operator l t)
    some t o found = subst IsSome (sym found) refl

    no_text : {zs : List Expr} {ps : List Op} (r c : List Kind) → rest ≡ c ++ r → ChainTail labels l c zs ps → length rest ≤ length r
    no_text r c equal tail = let nothing : c ≡ [] = no_tail (λ t o d is found. none t (d ++ r) (equal ∙ ap (λ v. v ++ r) is) (some t o found)) tail in omega (arith, ap length equal, ap length nothing, length-append c r)

    no_prefix : (r c : List Kind) → rest ≡ c ++ r → BeginsTail labels l c → n ≤ length r
    no_prefix r [] equal begins = omega (arith, ap length equal, so_far.past)
    no_prefix r (u ∷ d) equal begins =
        let nothing : u ∷ (d ++ begins.more) ≡ [] = no_tail (λ t o e is found. none t (d ++ r) (equal ∙ ap (λ v. v ∷ (d ++ r)) (heads is)) (some t o found)) begins.tail in
        absurd (cc)

-- an operator follows, and no operand after it
pub chain_stop : {labels : Labels} {l : Precedence} {ts rest after : List Kind} {n m : ℕ} {x : Expr} {ys : List Expr} {os : List Op} (t : Kind) (o : Op) → is_chain l ≡ true → ChainSoFar labels l ts rest n x ys os
    → rest ≡ t ∷ after → operator l t ≡ Some o → Missing (Derives labels (inner l)) after m → Found (Derives labels l) ts (level x ys os) rest (min n m)
chain_stop {labels = labels} {l = l} {ts = ts} {rest = rest} {after = after} {n = n} {m = m} t o is_true so_far rest_is found none = record {
  front = so_far.a ++ so_far.b;
  cut = so_far.cut;
  text = chain is_true so_far.operand so_far.tail;
  longest = λ f r y is text. ⊎_elim (λ short. short) (λ tail. no_text r tail.0 tail.3 tail.4) (so_far.texts f r y is text);
  reach = reach_begun
      (begun_lesser n m so_far.begun
      (begun_behind ((so_far.a ++ so_far.b) ++ (t ∷ [])) (so_far.cut ∙ ap (λ v. (so_far.a ++ so_far.b) ++ v) rest_is ∙ sym (append_assoc (so_far.a ++ so_far.b) (t ∷ []) after))
      (λ f begins. operator_begins t o is_true so_far.operand so_far.tail found begins) (begun none.reach)))
      (λ f r is begins. ⊎_elim (λ short. omega (arith, short)) (λ tail. in_operand r tail.0 tail.1 tail.2) (so_far.prefixes f r is begins));
}
  where
    no_text : {zs : List Expr} {ps : List Op} (r c : List Kind) → rest ≡ c ++ r → ChainTail labels l c zs ps → length rest ≤ length r
    no_text r c equal end = omega (arith, ap length equal)
    no_text r c equal (link {a = a} {b = b} {y = z} is operand tail) = absurd (none.none a (b ++ r) z (tails (sym rest_is ∙ equal) ∙ append_assoc a b r) operand)

    linked : (r d more g : List Kind) (zs : List Expr) (ps : List Op) → after ≡ d ++ r → ChainTail labels l g zs ps → t ∷ (d ++ more) ≡ g → m ≤ length r
    linked r d more g zs ps equal end is = absurd (cc)
    linked r d more g zs ps equal (link {a = a} {b = b} {y = z} is_op operand tail) is =
        ⊎_elim
        (λ within. none.reach.furthest d r equal (record { more = within.0; tree = z; text = subst (λ v. Derives labels (inner l) v z) within.1 operand }))
        (λ beyond. absurd (none.none a (beyond.0 ++ r) z (equal ∙ ap (λ v. v ++ r) beyond.1 ∙ append_assoc a beyond.0 r) operand))
        (cut_twice d more a b (tails is))

    in_operand : (r c : List Kind) → rest ≡ c ++ r → BeginsTail labels l c → min n m ≤ length r
    in_operand r [] equal begins = omega (arith, ap length equal, so_far.past)
    in_operand r (u ∷ d) equal begins =
        let both : t ∷ after ≡ u ∷ (d ++ r) = sym rest_is ∙ equal in
        omega (arith, linked r d begins.more (u ∷ (d ++ begins.more)) begins.operands begins.operators (tails both) begins.tail (ap (λ v. v ∷ (d ++ begins.more)) (heads both)))
