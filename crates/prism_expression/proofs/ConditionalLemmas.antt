-- A condition and the branches after it.
use Rattle.std.proofs.Common.{◌≡◌, ℕ, ◌≤◌, min, true, List, [], ◌∷◌, ◌++◌, length, refl, sym, ap, ◌∙◌, subst, ◌⊎◌, inl, inr, ⊎_elim, arith}
use Rattle.std.proofs.lemmas.List.{append_assoc, length-append}
use Rattle.prism_syntax.specs.declared.labels.Labels.{Labels}
use Rattle.prism_syntax.specs.declared.tokens.Kind.{Kind}
use Rattle.prism_syntax.specs.declared.tokens.Kind.TheVariants as k
use Rattle.prism_syntax.specs.declared.expressions.Expr.{Expr}
use Rattle.prism_syntax.specs.declared.expressions.Expr.TheVariants as e
use Rattle.prism_syntax.specs.declared.precedence.Precedence.TheVariants as rule
use Rattle.prism_syntax.specs.Expressions.{Derives, plain, conditional}
use Rattle.prism_reading.specs.Reach.{IsPrefix, IsReach}
use Rattle.prism_reading.specs.Sequences.{Ended, ended}
use Rattle.prism_reading.proofs.ReachLemmas.{begun, reach_same, reach_cons, reach_nil, reach_lesser, whole_prefix, cut_twice, heads, tails}
use Rattle.prism_expression.specs.Follow.{goes_on}
use Rattle.prism_expression.specs.Parts.{IsBranches, branches}
use Rattle.prism_expression.proofs.RankLemmas.{false_true}
use Rattle.prism_expression.proofs.TextLemmas.{ConditionalText, plain_text, conditional_text, conditional_texts}
use Rattle.prism_expression.proofs.TruthLemmas.{truth}
use Rattle.prism_expression.proofs.UntilLemmas.{until_agrees}
use Rattle.prism_expression.proofs.FoundLemmas.{Found, Missing, Behind, behind_found, behind_missing, past_rest}
use Rattle.prism_expression.proofs.NextLemmas.{next_text}

-- what begins the first branch, with its `:`
abbrev Until : Labels → List Kind → Expr → Type 0
Until labels = Ended (Derives labels rule.Implication) k.Colon

-- the first branch with its `:` and the second make two branches
two_branches : {labels : Labels} {a c : List Kind} {y z : Expr} → Until labels a y → Derives labels rule.Conditional c z → IsBranches labels (k.Query ∷ (a ++ c)) (y, z)
two_branches {labels = labels} {c = c} {z = z} (ended {a = a} {x = y} first) second = subst (λ v. IsBranches labels (k.Query ∷ v) (y, z)) (sym (append_assoc a (k.Colon ∷ []) c)) (branches first second)

-- and each two branches are made so
record Split (labels : Labels) (g : List Kind) (w : Expr × Expr) : Type 0 where
  a : List Kind
  c : List Kind
  y : Expr
  z : Expr
  is : g ≡ k.Query ∷ (a ++ c)
  first : Until labels a y
  second : Derives labels rule.Conditional c z

split : {labels : Labels} {g : List Kind} {w : Expr × Expr} → IsBranches labels g w → Split labels g w
split (branches {b = b} {c = c} {y = y} {z = z} first second) = record {
  a = b ++ (k.Colon ∷ []);
  c = c;
  y = y;
  z = z;
  is = ap (λ v. k.Query ∷ v) (sym (append_assoc b (k.Colon ∷ []) c));
  first = ended first;
  second = second;
}

-- a prefix of two branches ends inside the first, or begins the second after it
data Inside (labels : Labels) (f : List Kind) : Type 0 where
  in_first : IsPrefix (Until labels) f → Inside labels f
  in_second : (a d : List Kind) (y : Expr) → f ≡ a ++ d → Until labels a y → IsPrefix (Derives labels rule.Conditional) d → Inside labels f

inside : {labels : Labels} {g : List Kind} {w : Expr × Expr} (u : Kind) (f more : List Kind) → (s : Split labels g w) → u ∷ (f ++ more) ≡ g → Inside labels f
inside {labels = labels} u f more s is =
    ⊎_elim (λ within. in_first (record { more = within.0; tree = s.y; text = subst (λ v. Until labels v s.y) within.1 s.first }))
    (λ beyond. in_second s.a beyond.0 s.y beyond.1 s.first (record { more = more; tree = s.z; text = subst (λ v. Derives labels rule.Conditional v s.z) beyond.2 s.second }))
    (cut_twice f more s.a s.c (tails (is ∙ s.is)))

-- nothing is a prefix of two branches
branches_nothing : {labels : Labels} → IsPrefix (IsBranches labels) []
branches_nothing = record { more = k.Query ∷ ((k.True ∷ (k.Colon ∷ [])) ++ (k.True ∷ [])); tree = (e.Truth true, e.Truth true); text = two_branches (ended (truth rule.Implication)) (truth rule.Conditional) }

-- no `?`
pub unasked : {labels : Labels} {ts : List Kind} → ((r : List Kind) → ts ≡ k.Query ∷ r → ⊥) → Missing (IsBranches labels) ts (length ts)
unasked {labels = labels} {ts = ts} none = record {
  none = λ f r w is text. let s = split text in none ((s.a ++ s.c) ++ r) (is ∙ ap (λ v. v ++ r) s.is);
  reach = reach_nil branches_nothing (λ f r is begins. nothing f r is begins);
}
  where
    nothing : (f r : List Kind) → ts ≡ f ++ r → IsPrefix (IsBranches labels) f → f ≡ []
    nothing [] r is begins = refl
    nothing (u ∷ f) r is begins = let s = split begins.text in absurd (none (f ++ r) (is ∙ ap (λ v. v ∷ (f ++ r)) (heads s.is)))

-- no first branch up to `:` after `?`
pub no_first_branch : {labels : Labels} {ts us : List Kind} {n : ℕ} → ts ≡ k.Query ∷ us → Missing (Until labels) us n → Missing (IsBranches labels) ts n
no_first_branch {labels = labels} {ts = ts} {us = us} is none = record {
  none = λ f r w cut text. let s = split text in
      none.none s.a (s.c ++ r) s.y (tails (sym is ∙ cut ∙ ap (λ v. v ++ r) s.is) ∙ append_assoc s.a s.c r) s.first;
  reach = reach_cons k.Query is (λ f begins. record {
    more = begins.more ++ (k.True ∷ []);
    tree = (begins.tree, e.Truth true);
    text = subst (λ v. IsBranches labels (k.Query ∷ v) (begins.tree, e.Truth true)) (append_assoc f begins.more (k.True ∷ [])) (two_branches begins.text (truth rule.Conditional));
  })
      (λ f r cut begins. cover f r cut begins) none.reach;
}
  where
    part : (f r : List Kind) → us ≡ f ++ r → Inside labels f → IsPrefix (Until labels) f
    part f r cut (in_first begins) = begins
    part f r cut (in_second a d y whole first second) = absurd (none.none a (d ++ r) y (cut ∙ ap (λ v. v ++ r) whole ∙ append_assoc a d r) first)

    cover : (f r : List Kind) → ts ≡ f ++ r → IsPrefix (IsBranches labels) f → (f ≡ []) ⊎ ((g : List Kind) × (us ≡ g ++ r) × IsPrefix (Until labels) g)
    cover [] r cut begins = inl refl
    cover (u ∷ f) r cut begins =
        let after : us ≡ f ++ r = tails (sym is ∙ cut) in
        inr (f, after, part f r after (inside u f begins.more (split begins.text) refl))

-- the second branch behind the first
second_behind : {labels : Labels} {ts us outside : List Kind} {y : Expr} → ts ≡ k.Query ∷ us → Found (Until labels) us y outside (length outside)
    → Behind (Derives labels rule.Conditional) (IsBranches labels) (λ z. (y, z)) ts outside
second_behind {labels = labels} {ts = ts} {us = us} {outside = outside} {y = y} is first = record {
  before = k.Query ∷ first.front;
  cut = is ∙ ap (λ v. k.Query ∷ v) first.cut;
  up = λ g z text. two_branches first.text text;
  texts = λ f r w cut text. inr (second_text is first f r w cut text);
  prefixes = λ f r cut begins. prefixes f r cut begins;
}
  where
    part : (f r : List Kind) → us ≡ f ++ r → Inside labels f → (length outside ≤ length r) ⊎ ((g : List Kind) × (outside ≡ g ++ r) × IsPrefix (Derives labels rule.Conditional) g)
    part f r cut (in_first begins) = inl (first.reach.furthest f r cut begins)
    part f r cut (in_second a d w whole one second) =
        inr (d, (until_agrees rule.Implication k.Colon refl first.front a outside (d ++ r) y w first.text one tt tt (sym first.cut ∙ cut ∙ ap (λ v. v ++ r) whole ∙ append_assoc a d r)).0, second)

    prefixes : (f r : List Kind) → ts ≡ f ++ r → IsPrefix (IsBranches labels) f → (length outside ≤ length r) ⊎ ((g : List Kind) × (outside ≡ g ++ r) × IsPrefix (Derives labels rule.Conditional) g)
    prefixes [] r cut begins = inl (omega (arith, ap length cut, ap length is, ap length first.cut, length-append first.front outside))
    prefixes (u ∷ f) r cut begins = part f r (tails (sym is ∙ cut)) (inside u f begins.more (split begins.text) refl)

    second_text : ts ≡ k.Query ∷ us → Found (Until labels) us y outside (length outside) → (f r : List Kind) (w : Expr × Expr) → ts ≡ f ++ r → IsBranches labels f w
        → (g : List Kind) × (z : Expr) × (outside ≡ g ++ r) × Derives labels rule.Conditional g z
    second_text q one f r w cut text =
        let s = split text in (
          s.c,
          s.z,
          (until_agrees rule.Implication k.Colon refl one.front s.a outside (s.c ++ r) y s.y one.text s.first tt tt
              (sym one.cut ∙ tails (sym q ∙ cut ∙ ap (λ v. v ++ r) s.is) ∙ append_assoc s.a s.c r)).0,
          s.second,
        )

-- two branches
pub both_branches : {labels : Labels} {ts us outside rest : List Kind} {y z : Expr} {n : ℕ} → ts ≡ k.Query ∷ us → Found (Until labels) us y outside (length outside)
    → Found (Derives labels rule.Conditional) outside z rest n → Found (IsBranches labels) ts (y, z) rest n
both_branches is first second = behind_found (second_behind is first) second

-- no second branch
pub no_second_branch : {labels : Labels} {ts us outside : List Kind} {y : Expr} {n : ℕ} → ts ≡ k.Query ∷ us → Found (Until labels) us y outside (length outside)
    → Missing (Derives labels rule.Conditional) outside n → Missing (IsBranches labels) ts n
no_second_branch {labels = labels} {ts = ts} {outside = outside} {y = y} is first none = behind_missing (second_behind is first) (λ f r w cut text. strict f r w cut (split text)) none
  where
    strict : (f r : List Kind) (w : Expr × Expr) → ts ≡ f ++ r → Split labels f w → (g : List Kind) × (z : Expr) × (outside ≡ g ++ r) × Derives labels rule.Conditional g z
    strict f r w cut s = (
      s.c,
      s.z,
      (until_agrees rule.Implication k.Colon refl first.front s.a outside (s.c ++ r) y s.y first.text s.first tt tt
          (sym first.cut ∙ tails (sym is ∙ cut ∙ ap (λ v. v ++ r) s.is) ∙ append_assoc s.a s.c r)).0,
      s.second,
    )

-- ---- the condition

-- branches begin with `?`, which goes on no condition
query_stops : {labels : Labels} (c : List Kind) → IsPrefix (IsBranches labels) c → (t : Kind) (d : List Kind) → c ≡ t ∷ d → goes_on rule.Implication t ≡ true → ⊥
query_stops c begins t d is goes =
    let s = split begins.text in
    false_true (ap (goes_on rule.Implication) (sym (heads (ap (λ v. v ++ begins.more) (sym is) ∙ s.is))) ∙ goes)

-- a prefix of a conditional ends inside the condition, or begins branches after it
conditional_prefix : {labels : Labels} {ts rest : List Kind} {x : Expr} {n : ℕ} (f r : List Kind) → Found (Derives labels rule.Implication) ts x rest n → ts ≡ f ++ r → IsPrefix (Derives labels rule.Conditional) f
    → (n ≤ length r) ⊎ ((c : List Kind) × (rest ≡ c ++ r) × IsPrefix (IsBranches labels) c)
conditional_prefix {labels = labels} {rest = rest} {n = n} f r told is begins = of (f ++ begins.more) begins.tree (conditional_texts begins.text) refl
  where
    of : (g : List Kind) (y : Expr) → ConditionalText labels g y → f ++ begins.more ≡ g → (n ≤ length r) ⊎ ((c : List Kind) × (rest ≡ c ++ r) × IsPrefix (IsBranches labels) c)
    of g y (plain_text text) equal = inl (told.reach.furthest f r is (record { more = begins.more; tree = y; text = subst (λ v. Derives labels rule.Implication v y) (sym equal) text }))
    of g y (conditional_text {a = a} {b = b} {c = c} {x = z} {y = v} {z = w} first second third) equal =
        ⊎_elim
        (λ within. inl (told.reach.furthest f r is (record { more = within.0; tree = z; text = subst (λ u. Derives labels rule.Implication u z) within.1 first })))
        (λ beyond.
        let part : IsPrefix (IsBranches labels) beyond.0 = record { more = begins.more; tree = (v, w); text = subst (λ u. IsBranches labels u (v, w)) beyond.2 (branches second third) } in
        ⊎_elim (λ short. inl (omega (arith, short, past_rest told))) (λ next. inr (beyond.0, next, part))
        (next_text a beyond.0 r z told first (is ∙ ap (λ u. u ++ r) beyond.1 ∙ append_assoc a beyond.0 r) (query_stops beyond.0 part)))
        (cut_twice f begins.more a (k.Query ∷ (b ++ (k.Colon ∷ c))) equal)

-- a conditional text is a condition, with branches after it or not
conditional_at : {labels : Labels} {ts rest : List Kind} {x : Expr} {n : ℕ} (f r : List Kind) (y : Expr) → Found (Derives labels rule.Implication) ts x rest n → ts ≡ f ++ r → ConditionalText labels f y
    → (length rest ≤ length r) ⊎ ((c : List Kind) × (w : Expr × Expr) × (rest ≡ c ++ r) × IsBranches labels c w)
conditional_at f r y told is (plain_text text) = inl (told.longest f r y is text)
conditional_at {labels = labels} f r y told is (conditional_text {a = a} {b = b} {c = c} {x = z} {y = v} {z = w} first second third) =
    let part : IsBranches labels (k.Query ∷ (b ++ (k.Colon ∷ c))) (v, w) = branches second third in
    ⊎_elim (λ short. inl short) (λ next. inr (k.Query ∷ (b ++ (k.Colon ∷ c)), (v, w), next, part))
    (next_text a (k.Query ∷ (b ++ (k.Colon ∷ c))) r z told first (is ∙ append_assoc a (k.Query ∷ (b ++ (k.Colon ∷ c))) r)
    (query_stops (k.Query ∷ (b ++ (k.Colon ∷ c))) (whole_prefix (IsBranches labels) (k.Query ∷ (b ++ (k.Colon ∷ c))) (v, w) part)))

-- how far a condition and branches go together
conditional_reach : {labels : Labels} {ts rest : List Kind} {x : Expr} {n m : ℕ} → Found (Derives labels rule.Implication) ts x rest n → IsReach (IsPrefix (IsBranches labels)) rest m
    → IsReach (IsPrefix (Derives labels rule.Conditional)) ts (min n m)
conditional_reach {labels = labels} {x = x} {n = n} {m = m} told reach =
    reach_lesser n m told.front (begun told.reach) reach told.cut
    (λ f begins. record { more = begins.more; tree = begins.tree; text = plain begins.text })
    (λ f begins. behind f begins)
    (λ f r is begins. conditional_prefix f r told is begins)
  where
    whole : {g : List Kind} {w : Expr × Expr} → IsBranches labels g w → Derives labels rule.Conditional (told.front ++ g) (e.If x w.0 w.1)
    whole (branches second third) = conditional told.text second third

    behind : (f : List Kind) → IsPrefix (IsBranches labels) f → IsPrefix (Derives labels rule.Conditional) (told.front ++ f)
    behind f begins = record {
      more = begins.more;
      tree = e.If x begins.tree.0 begins.tree.1;
      text = subst (λ v. Derives labels rule.Conditional v (e.If x begins.tree.0 begins.tree.1)) (sym (append_assoc told.front f begins.more)) (whole begins.text);
    }

-- a condition and branches
pub conditional_found : {labels : Labels} {ts rest after : List Kind} {x y z : Expr} {n m : ℕ} → Found (Derives labels rule.Implication) ts x rest n → Found (IsBranches labels) rest (y, z) after m
    → Found (Derives labels rule.Conditional) ts (e.If x y z) after (min n m)
conditional_found {labels = labels} {rest = rest} {after = after} {x = x} {y = y} {z = z} told parts = record {
  front = told.front ++ parts.front;
  cut = told.cut ∙ ap (λ v. told.front ++ v) parts.cut ∙ sym (append_assoc told.front parts.front after);
  text = whole parts.text refl;
  longest = λ f r w is text. ⊎_elim (λ short. omega (arith, short, ap length parts.cut, length-append parts.front after))
      (λ next. parts.longest next.0 r next.1 next.2 next.3) (conditional_at f r w told is (conditional_texts text));
  reach = conditional_reach told parts.reach;
}
  where
    whole : {g : List Kind} {w : Expr × Expr} → IsBranches labels g w → w ≡ (y, z) → Derives labels rule.Conditional (told.front ++ g) (e.If x y z)
    whole (branches {b = b} {c = c} {y = u} {z = v} second third) is =
        subst (λ w. Derives labels rule.Conditional (told.front ++ (k.Query ∷ (b ++ (k.Colon ∷ c)))) (e.If x w.0 w.1)) is (conditional told.text second third)

-- a condition alone
pub condition_alone : {labels : Labels} {ts rest : List Kind} {x : Expr} {n m : ℕ} → Found (Derives labels rule.Implication) ts x rest n → Missing (IsBranches labels) rest m
    → Found (Derives labels rule.Conditional) ts x rest (min n m)
condition_alone told none = record {
  front = told.front;
  cut = told.cut;
  text = plain told.text;
  longest = λ f r y is text. ⊎_elim (λ short. short) (λ next. absurd (none.none next.0 r next.1 next.2 next.3)) (conditional_at f r y told is (conditional_texts text));
  reach = conditional_reach told none.reach;
}

-- no condition
pub no_condition : {labels : Labels} {ts : List Kind} {n : ℕ} → Missing (Derives labels rule.Implication) ts n → Missing (Derives labels rule.Conditional) ts n
no_condition {labels = labels} {ts = ts} none = record {
  none = λ f r y is text. no_text f r y is (conditional_texts text);
  reach = reach_same (λ f begins. record { more = begins.more; tree = begins.tree; text = plain begins.text })
      (λ f r is begins. within f r is begins (f ++ begins.more) begins.tree (conditional_texts begins.text) refl) none.reach;
}
  where
    no_text : (f r : List Kind) (y : Expr) → ts ≡ f ++ r → ConditionalText labels f y → ⊥
    no_text f r y is (plain_text text) = none.none f r y is text
    no_text f r y is (conditional_text {a = a} {b = b} {c = c} {x = x} first second third) = none.none a ((k.Query ∷ (b ++ (k.Colon ∷ c))) ++ r) x (is ∙ append_assoc a (k.Query ∷ (b ++ (k.Colon ∷ c))) r) first

    within : (f r : List Kind) → ts ≡ f ++ r → (begins : IsPrefix (Derives labels rule.Conditional) f) → (g : List Kind) (y : Expr) → ConditionalText labels g y → f ++ begins.more ≡ g → IsPrefix (Derives labels rule.Implication) f
    within f r is begins g y (plain_text text) equal = record { more = begins.more; tree = y; text = subst (λ v. Derives labels rule.Implication v y) (sym equal) text }
    within f r is begins g y (conditional_text {a = a} {b = b} {c = c} {x = x} first second third) equal =
        ⊎_elim (λ inner. record { more = inner.0; tree = x; text = subst (λ v. Derives labels rule.Implication v x) inner.1 first })
        (λ beyond. absurd (none.none a (beyond.0 ++ r) x (is ∙ ap (λ v. v ++ r) beyond.1 ∙ append_assoc a beyond.0 r) first))
        (cut_twice f begins.more a (k.Query ∷ (b ++ (k.Colon ∷ c))) equal)
