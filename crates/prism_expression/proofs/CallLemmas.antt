-- The arguments of a call as they are parsed one after another.
use Rattle.std.proofs.Common.{◌≡◌, ℕ, suc, ◌+◌, ◌≤◌, min, true, List, [], ◌∷◌, ◌++◌, length, refl, sym, ap, ◌∙◌, subst, ◌⊎◌, inl, inr, ⊎_elim, arith}
use Rattle.std.proofs.lemmas.Bool.Decides.{nat_tests}
use Rattle.std.proofs.lemmas.List.{append_assoc, append-nil, length-append}
use Rattle.prism_syntax.specs.declared.labels.Labels.{Labels}
use Rattle.prism_syntax.specs.declared.tokens.Kind.{Kind}
use Rattle.prism_syntax.specs.declared.tokens.Kind.TheVariants as k
use Rattle.prism_syntax.specs.declared.expressions.Expr.{Expr}
use Rattle.prism_syntax.specs.declared.expressions.Expr.TheVariants as e
use Rattle.prism_syntax.specs.declared.expressions.Func.{Func}
use Rattle.prism_syntax.specs.declared.expressions.Func.TheVariants as f
use Rattle.prism_syntax.specs.declared.precedence.Precedence.TheVariants as rule
use Rattle.prism_syntax.specs.Precedence.{takes}
use Rattle.prism_syntax.specs.Expressions.{Derives, Arguments, last, argument}
use Rattle.prism_reading.specs.Reach.{IsPrefix}
use Rattle.prism_reading.specs.Reading.{Anything}
use Rattle.prism_reading.proofs.ReachLemmas.{Begun, begun, begun_behind, begun_lesser, reach_begun, reach_same, reach_nil, cut_twice, heads, tails}
use Rattle.prism_reading.proofs.DefiniteLemmas.{Agrees}
use Rattle.prism_expression.specs.Follow.{goes_on, Ends}
use Rattle.prism_expression.specs.Parts.{IsRest, rest, IsArguments, arguments, IsCalled, called}
use Rattle.prism_expression.proofs.RankLemmas.{false_true}
use Rattle.prism_expression.proofs.TwoTextLemmas.{regroup}
use Rattle.prism_expression.proofs.CompareLemmas.{arguments_compare, agreed, ends_stop}
use Rattle.prism_expression.proofs.TruthLemmas.{truth}
use Rattle.prism_expression.proofs.FoundLemmas.{Found, Missing, Behind, past_rest}
use Rattle.prism_expression.proofs.NextLemmas.{other_text, next_text}

-- ---- the rest of some arguments

-- a function that takes more arguments may take one more
pub takes_next : (g : Func) (n m : ℕ) → takes g (n + suc m) ≡ true → takes g (n + 1) ≡ true
takes_next f.Min n m holds = grind (arith, nat_tests)
takes_next f.Max n m holds = grind (arith, nat_tests)
takes_next f.Floor n m holds = grind (arith, nat_tests)
takes_next f.Ceil n m holds = grind (arith, nat_tests)
takes_next f.Pow n m holds = grind (arith, nat_tests)
takes_next f.Mod n m holds = grind (arith, nat_tests)

-- the rest is `)`, or a comma, an argument and a rest after it
data RestShape (labels : Labels) (g : Func) (before : ℕ) (h : List Kind) : Type 0 where
  closes : h ≡ k.Close ∷ [] → takes g before ≡ true → RestShape labels g before h
  goes : (a b : List Kind) (y : Expr) (ys : List Expr) → h ≡ k.Comma ∷ (a ++ b) → takes g (before + 1) ≡ true → Derives labels rule.Conditional a y → IsRest labels g (before + 1) b ys
      → RestShape labels g before h

rest_shape : {labels : Labels} {g : Func} {before : ℕ} {h : List Kind} {ys : List Expr} → IsRest labels g before h ys → RestShape labels g before h
rest_shape {g = g} {before = before} (rest fits last) = closes refl (let same : before + 0 ≡ before = omega arith in ap (takes g) (sym same) ∙ fits)
rest_shape {g = g} {before = before} (rest fits (argument {a = a} {b = b} {y = y} {ys = ys} first more)) =
    let same : (before + 1) + length ys ≡ before + suc (length ys) = omega arith in
    goes a (b ++ (k.Close ∷ [])) y ys (ap (λ v. k.Comma ∷ v) (append_assoc a b (k.Close ∷ []))) (takes_next g before (length ys) fits) first (rest (ap (takes g) same ∙ fits) more)

-- the first token of a rest goes on no argument
rest_stops : {labels : Labels} {g : Func} {before : ℕ} {h : List Kind} {ys : List Expr} → IsRest labels g before h ys → (t : Kind) (d : List Kind) → h ≡ t ∷ d → goes_on rule.Conditional t ≡ true → ⊥
rest_stops (rest fits last) t d is on = false_true (ap (goes_on rule.Conditional) (heads is) ∙ on)
rest_stops (rest fits (argument first more)) t d is on = false_true (ap (goes_on rule.Conditional) (heads is) ∙ on)

rest_ends : {labels : Labels} {g : Func} {before : ℕ} {h : List Kind} {ys : List Expr} (r : List Kind) → IsRest labels g before h ys → Ends rule.Conditional (h ++ r)
rest_ends r (rest fits last) = refl
rest_ends r (rest fits (argument first more)) = refl

rest_agrees : {labels : Labels} {g : Func} {before : ℕ} {a b : List Kind} {xs ys : List Expr} (r s : List Kind) → IsRest labels g before a xs → IsRest labels g before b ys → a ++ r ≡ b ++ s → (r ≡ s) × (xs ≡ ys)
rest_agrees r s (rest {b = a} {ys = xs} fits first) (rest {b = b} {ys = ys} suits second) is =
    arguments_compare first b r s ys second (sym (append_assoc a (k.Close ∷ []) r) ∙ is ∙ append_assoc b (k.Close ∷ []) s)

-- two lists of arguments at the front of one list of tokens are the same
pub arguments_agree : {labels : Labels} (g : Func) → Agrees (IsArguments labels g) Anything
arguments_agree {labels = labels} g a b r s x y first second before after is = of a b x y first second is
  where
    of : (h i : List Kind) (xs ys : List Expr) → IsArguments labels g h xs → IsArguments labels g i ys → h ++ r ≡ i ++ s → (r ≡ s) × (xs ≡ ys)
    of h i xs ys (arguments {a = c} {b = d} {x = u} one more) (arguments {a = m} {b = n} {x = v} other others) same =
        let both = agreed one other (regroup c d r m n s same) (rest_ends r more) (rest_ends s others) in
        let ends = rest_agrees r s more others both.1 in
        (ends.0, cc (both.2, ends.1))

-- so are two with `(` before them
pub called_agree : {labels : Labels} (g : Func) → Agrees (IsCalled labels g) Anything
called_agree {labels = labels} g a b r s x y first second before after is = of a b x y first second is
  where
    of : (h i : List Kind) (xs ys : List Expr) → IsCalled labels g h xs → IsCalled labels g i ys → h ++ r ≡ i ++ s → (r ≡ s) × (xs ≡ ys)
    of h i xs ys (called {a = c} one) (called {a = d} other) same = arguments_agree g c d r s xs ys one other tt tt (tails same)

-- the least rest of the first argument
record LeastRest (labels : Labels) (g : Func) : Type 0 where
  tokens : List Kind
  trees : List Expr
  text : IsRest labels g 0 tokens trees

none_more : {labels : Labels} (g : Func) → takes g 0 ≡ true → LeastRest labels g
none_more g fits = record { tokens = k.Close ∷ []; trees = []; text = rest fits last }

one_more : {labels : Labels} (g : Func) → takes g 1 ≡ true → LeastRest labels g
one_more g fits = record { tokens = (k.Comma ∷ ((k.True ∷ []) ++ [])) ++ (k.Close ∷ []); trees = e.Truth true ∷ []; text = rest fits (argument (truth rule.Conditional) last) }

least_rest : (labels : Labels) (g : Func) → LeastRest labels g
least_rest labels f.Min = one_more f.Min refl
least_rest labels f.Max = one_more f.Max refl
least_rest labels f.Floor = none_more f.Floor refl
least_rest labels f.Ceil = none_more f.Ceil refl
least_rest labels f.Pow = one_more f.Pow refl
least_rest labels f.Mod = one_more f.Mod refl

-- what begins an argument begins the arguments
pub argument_begins : {labels : Labels} (g : Func) {p : List Kind} → IsPrefix (Derives labels rule.Conditional) p → IsPrefix (IsArguments labels g) p
argument_begins {labels = labels} g {p = p} begins =
    let least = least_rest labels g in
    record {
      more = begins.more ++ least.tokens;
      tree = begins.tree ∷ least.trees;
      text = subst (λ v. IsArguments labels g v (begins.tree ∷ least.trees)) (append_assoc p begins.more least.tokens) (arguments begins.text least.text);
    }

-- ---- an argument and a rest after it

-- behind the longest argument stands the rest
rest_after : {labels : Labels} {g : Func} {before : ℕ} {ts next : List Kind} {x y : Expr} {ys : List Expr} {n : ℕ} (a b r : List Kind) → Found (Derives labels rule.Conditional) ts x next n → Derives labels rule.Conditional a y
    → IsRest labels g before b ys → ts ≡ (a ++ b) ++ r → next ≡ b ++ r
rest_after {y = y} a b r told text more is =
    ⊎_elim (λ one. one.0) (λ beyond. absurd (ends_stop rule.Conditional (b ++ r) (rest_ends r more) beyond.1)) (other_text a (b ++ r) y told text (is ∙ append_assoc a b r))

-- a prefix of an argument and a rest ends inside the argument, or begins the rest after it
rest_prefix : {labels : Labels} {g : Func} {before : ℕ} {ts next : List Kind} {x y : Expr} {ys : List Expr} {n : ℕ} (p more a b r : List Kind) → Found (Derives labels rule.Conditional) ts x next n → Derives labels rule.Conditional a y
    → IsRest labels g before b ys → p ++ more ≡ a ++ b → ts ≡ p ++ r → (n ≤ length r) ⊎ ((c : List Kind) × (next ≡ c ++ r) × IsPrefix (IsRest labels g before) c)
rest_prefix {labels = labels} {g = g} {before = before} {y = y} {ys = ys} p more a b r told text others equal is =
    ⊎_elim
    (λ within. inl (told.reach.furthest p r is (record { more = within.0; tree = y; text = subst (λ v. Derives labels rule.Conditional v y) within.1 text })))
    (λ beyond.
    ⊎_elim (λ short. inl (omega (arith, short, past_rest told)))
    (λ next. inr (beyond.0, next, record { more = more; tree = ys; text = subst (λ v. IsRest labels g before v ys) beyond.2 others }))
    (next_text a beyond.0 r y told text (is ∙ ap (λ v. v ++ r) beyond.1 ∙ append_assoc a beyond.0 r)
    (λ t d here on. rest_stops others t (d ++ more) (beyond.2 ∙ ap (λ v. v ++ more) here) on)))
    (cut_twice p more a b equal)

-- ---- arguments so far

-- the arguments so far, and that each list of arguments and each prefix of one ends in them or goes on after them
pub record ArgumentsSoFar (labels : Labels) (g : Func) (ts next : List Kind) (n : ℕ) (x : Expr) (ys : List Expr) : Type 0 where
  pub a : List Kind
  pub b : List Kind
  pub cut : ts ≡ (a ++ b) ++ next
  pub first : Derives labels rule.Conditional a x
  pub others : Arguments labels b ys
  pub texts : (p r : List Kind) (zs : List Expr) → ts ≡ p ++ r → IsArguments labels g p zs → (c : List Kind) × (us : List Expr) × (next ≡ c ++ r) × IsRest labels g (length ys) c us
  pub begun : Begun (IsPrefix (IsArguments labels g)) ts n
  pub past : n ≤ length next
  pub prefixes : (p r : List Kind) → ts ≡ p ++ r → IsPrefix (IsArguments labels g) p → (n ≤ length r) ⊎ ((c : List Kind) × (next ≡ c ++ r) × IsPrefix (IsRest labels g (length ys)) c)

-- no first argument
pub no_argument : {labels : Labels} {g : Func} {ts : List Kind} {n : ℕ} → Missing (Derives labels rule.Conditional) ts n → Missing (IsArguments labels g) ts n
no_argument {labels = labels} {g = g} {ts = ts} none = record {
  none = λ p r xs is text. no_text p r xs is text;
  reach = reach_same (λ p begins. argument_begins g begins) (λ p r is begins. inside p r is begins (p ++ begins.more) begins.tree begins.text refl) none.reach;
}
  where
    no_text : (p r : List Kind) (xs : List Expr) → ts ≡ p ++ r → IsArguments labels g p xs → ⊥
    no_text p r xs is (arguments {a = a} {b = b} {x = x} one more) = none.none a (b ++ r) x (is ∙ append_assoc a b r) one

    inside : (p r : List Kind) → ts ≡ p ++ r → (begins : IsPrefix (IsArguments labels g) p) → (h : List Kind) (xs : List Expr) → IsArguments labels g h xs → p ++ begins.more ≡ h → IsPrefix (Derives labels rule.Conditional) p
    inside p r is begins h xs (arguments {a = a} {b = b} {x = x} one more) equal =
        ⊎_elim (λ within. record { more = within.0; tree = x; text = subst (λ v. Derives labels rule.Conditional v x) within.1 one })
        (λ beyond. absurd (none.none a (beyond.0 ++ r) x (is ∙ ap (λ v. v ++ r) beyond.1 ∙ append_assoc a beyond.0 r) one))
        (cut_twice p begins.more a b equal)

-- the first argument
pub arguments_first : {labels : Labels} {g : Func} {ts next : List Kind} {x : Expr} {n : ℕ} → Found (Derives labels rule.Conditional) ts x next n → ArgumentsSoFar labels g ts next n x []
arguments_first {labels = labels} {g = g} {ts = ts} {next = next} {n = n} told = record {
  a = told.front;
  b = [];
  cut = told.cut ∙ ap (λ v. v ++ next) (sym (append-nil told.front));
  first = told.text;
  others = last;
  texts = λ p r zs is text. text_at p r zs is text;
  begun = begun_behind [] refl (λ p begins. argument_begins g begins) (begun told.reach);
  past = past_rest told;
  prefixes = λ p r is begins. prefix_at p r is begins (p ++ begins.more) begins.tree begins.text refl;
}
  where
    text_at : (p r : List Kind) (zs : List Expr) → ts ≡ p ++ r → IsArguments labels g p zs → (c : List Kind) × (us : List Expr) × (next ≡ c ++ r) × IsRest labels g 0 c us
    text_at p r zs is (arguments {a = a} {b = b} {ys = ys} one more) = (b, ys, rest_after a b r told one more is, more)

    prefix_at : (p r : List Kind) → ts ≡ p ++ r → (begins : IsPrefix (IsArguments labels g) p) → (h : List Kind) (xs : List Expr) → IsArguments labels g h xs → p ++ begins.more ≡ h
        → (n ≤ length r) ⊎ ((c : List Kind) × (next ≡ c ++ r) × IsPrefix (IsRest labels g 0) c)
    prefix_at p r is begins h xs (arguments {a = a} {b = b} one more) equal = rest_prefix p begins.more a b r told one more equal is

-- a further argument at the end
pub arguments_more : {labels : Labels} {b : List Kind} {ys : List Expr} (a : List Kind) (y : Expr) → Arguments labels b ys → Derives labels rule.Conditional a y → Arguments labels (b ++ (k.Comma ∷ a)) (ys ++ (y ∷ []))
arguments_more {labels = labels} a y last text = subst (λ v. Arguments labels (k.Comma ∷ v) (y ∷ [])) (append-nil a) (argument text last)
arguments_more {labels = labels} a y (argument {a = c} {b = d} {y = z} {ys = zs} first more) text =
    subst (λ v. Arguments labels (k.Comma ∷ v) (z ∷ (zs ++ (y ∷ [])))) (sym (append_assoc c d (k.Comma ∷ a))) (argument first (arguments_more a y more text))

-- a comma and what begins an argument after it begin the arguments
pub comma_begins : {labels : Labels} {g : Func} {p a b : List Kind} {x : Expr} {ys : List Expr} → Derives labels rule.Conditional a x → Arguments labels b ys → takes g (length ys + 1) ≡ true
    → IsPrefix (Derives labels rule.Conditional) p → IsPrefix (IsArguments labels g) (((a ++ b) ++ (k.Comma ∷ [])) ++ p)
comma_begins {labels = labels} {g = g} {p = p} {a = a} {b = b} {x = x} {ys = ys} first others fits begins = record {
  more = begins.more ++ (k.Close ∷ []);
  tree = x ∷ (ys ++ (begins.tree ∷ []));
  text = subst (λ v. IsArguments labels g v (x ∷ (ys ++ (begins.tree ∷ [])))) same
      (arguments first (rest (ap (takes g) many ∙ fits) (arguments_more (p ++ begins.more) begins.tree others begins.text)));
}
  where
    many : 0 + length (ys ++ (begins.tree ∷ [])) ≡ length ys + 1
    many = omega (arith, length-append ys (begins.tree ∷ []))

    same : a ++ ((b ++ (k.Comma ∷ (p ++ begins.more))) ++ (k.Close ∷ [])) ≡ (((a ++ b) ++ (k.Comma ∷ [])) ++ p) ++ (begins.more ++ (k.Close ∷ []))
    same =
        ap (λ v. a ++ v) (append_assoc b (k.Comma ∷ (p ++ begins.more)) (k.Close ∷ []) ∙ ap (λ v. b ++ (k.Comma ∷ v)) (append_assoc p begins.more (k.Close ∷ [])))
        ∙ sym (append_assoc a b (k.Comma ∷ (p ++ (begins.more ++ (k.Close ∷ [])))))
        ∙ sym (append_assoc (a ++ b) (k.Comma ∷ []) (p ++ (begins.more ++ (k.Close ∷ []))))
        ∙ sym (append_assoc ((a ++ b) ++ (k.Comma ∷ [])) p (begins.more ++ (k.Close ∷ [])))

-- a rest behind a comma that was passed
comma_rest : {labels : Labels} {g : Func} {before : ℕ} {next after : List Kind} (c r : List Kind) → next ≡ k.Comma ∷ after → next ≡ c ++ r → RestShape labels g before c
    → (a : List Kind) × (b : List Kind) × (y : Expr) × (ys : List Expr) × (after ≡ (a ++ b) ++ r) × Derives labels rule.Conditional a y × IsRest labels g (before + 1) b ys
comma_rest c r is cut (closes here fits) = absurd (let wrong : k.Comma ≡ k.Close = heads (sym is ∙ cut ∙ ap (λ v. v ++ r) here) in cc)
comma_rest c r is cut (goes a b y ys here fits first more) = (a, b, y, ys, tails (sym is ∙ cut ∙ ap (λ v. v ++ r) here), first, more)

-- a prefix of a rest behind such a comma
comma_prefix : {labels : Labels} {g : Func} {before : ℕ} {h : List Kind} (u : Kind) (p more : List Kind) → u ≡ k.Comma → u ∷ (p ++ more) ≡ h → RestShape labels g before h
    → (a : List Kind) × (b : List Kind) × (y : Expr) × (ys : List Expr) × (p ++ more ≡ a ++ b) × Derives labels rule.Conditional a y × IsRest labels g (before + 1) b ys
comma_prefix u p more is cut (closes here fits) = absurd (let wrong : k.Comma ≡ k.Close = sym is ∙ heads (cut ∙ here) in cc)
comma_prefix u p more is cut (goes a b y ys here fits first others) = (a, b, y, ys, tails (cut ∙ here), first, others)

-- one argument more
pub arguments_next : {labels : Labels} {g : Func} {ts next after beyond : List Kind} {n m : ℕ} {x y : Expr} {ys : List Expr} → ArgumentsSoFar labels g ts next n x ys → next ≡ k.Comma ∷ after
    → takes g (length ys + 1) ≡ true → Found (Derives labels rule.Conditional) after y beyond m → ArgumentsSoFar labels g ts beyond (min n m) x (ys ++ (y ∷ []))
arguments_next {labels = labels} {g = g} {ts = ts} {next = next} {after = after} {beyond = beyond} {n = n} {m = m} {y = y} {ys = ys} so_far is fits told = record {
  a = so_far.a;
  b = so_far.b ++ (k.Comma ∷ told.front);
  cut = so_far.cut ∙ ap (λ v. (so_far.a ++ so_far.b) ++ v) (is ∙ ap (λ v. k.Comma ∷ v) told.cut) ∙ sym (append_assoc (so_far.a ++ so_far.b) (k.Comma ∷ told.front) beyond) ∙ ap (λ v. v ++ beyond) (append_assoc so_far.a so_far.b (k.Comma ∷ told.front));
  first = so_far.first;
  others = arguments_more told.front y so_far.others told.text;
  texts = λ p r zs cut text. text_at r (so_far.texts p r zs cut text);
  begun = begun_lesser n m so_far.begun
      (begun_behind ((so_far.a ++ so_far.b) ++ (k.Comma ∷ [])) (so_far.cut ∙ ap (λ v. (so_far.a ++ so_far.b) ++ v) is ∙ sym (append_assoc (so_far.a ++ so_far.b) (k.Comma ∷ []) after))
      (λ p begins. comma_begins so_far.first so_far.others fits begins) (begun told.reach));
  past = omega (arith, past_rest told);
  prefixes = λ p r cut begins. ⊎_elim (λ short. inl (omega (arith, short))) (λ part. prefix_at r part.0 part.1 part.2) (so_far.prefixes p r cut begins);
}
  where
    many : length ys + 1 ≡ length (ys ++ (y ∷ []))
    many = omega (arith, length-append ys (y ∷ []))

    text_at : (r : List Kind) → (c : List Kind) × (us : List Expr) × (next ≡ c ++ r) × IsRest labels g (length ys) c us → (c : List Kind) × (us : List Expr) × (beyond ≡ c ++ r) × IsRest labels g (length (ys ++ (y ∷ []))) c us
    text_at r part =
        let here = comma_rest part.0 r is part.2 (rest_shape part.3) in
        (here.1, here.3, rest_after here.0 here.1 r told here.5 here.6 here.4, subst (λ v. IsRest labels g v here.1 here.3) many here.6)

    prefix_at : (r c : List Kind) → next ≡ c ++ r → IsPrefix (IsRest labels g (length ys)) c → (min n m ≤ length r) ⊎ ((d : List Kind) × (beyond ≡ d ++ r) × IsPrefix (IsRest labels g (length (ys ++ (y ∷ [])))) d)
    prefix_at r [] cut begins = inl (omega (arith, ap length cut, so_far.past))
    prefix_at r (u ∷ c) cut begins =
        let both : k.Comma ∷ after ≡ u ∷ (c ++ r) = sym is ∙ cut in
        let here = comma_prefix u c begins.more (sym (heads both)) refl (rest_shape begins.text) in
        ⊎_elim (λ short. inl (omega (arith, short))) (λ part. inr (part.0, part.1, subst (λ v. IsPrefix (IsRest labels g v) part.0) many part.2))
        (rest_prefix c begins.more here.0 here.1 r told here.5 here.6 here.4 (tails both))

-- a comma, and no argument after it
pub no_next : {labels : Labels} {g : Func} {ts next after : List Kind} {n m : ℕ} {x : Expr} {ys : List Expr} → ArgumentsSoFar labels g ts next n x ys → next ≡ k.Comma ∷ after
    → takes g (length ys + 1) ≡ true → Missing (Derives labels rule.Conditional) after m → Missing (IsArguments labels g) ts (min n m)
no_next {labels = labels} {g = g} {ts = ts} {next = next} {after = after} {n = n} {m = m} {ys = ys} so_far is fits none = record {
  none = λ p r zs cut text.
      let part = so_far.texts p r zs cut text in
      let here = comma_rest part.0 r is part.2 (rest_shape part.3) in
      none.none here.0 (here.1 ++ r) here.2 (here.4 ∙ append_assoc here.0 here.1 r) here.5;
  reach = reach_begun
      (begun_lesser n m so_far.begun
      (begun_behind ((so_far.a ++ so_far.b) ++ (k.Comma ∷ [])) (so_far.cut ∙ ap (λ v. (so_far.a ++ so_far.b) ++ v) is ∙ sym (append_assoc (so_far.a ++ so_far.b) (k.Comma ∷ []) after))
      (λ p begins. comma_begins so_far.first so_far.others fits begins) (begun none.reach)))
      (λ p r cut begins. ⊎_elim (λ short. omega (arith, short)) (λ part. prefix_at r part.0 part.1 part.2) (so_far.prefixes p r cut begins));
}
  where
    prefix_at : (r c : List Kind) → next ≡ c ++ r → IsPrefix (IsRest labels g (length ys)) c → min n m ≤ length r
    prefix_at r [] cut begins = omega (arith, ap length cut, so_far.past)
    prefix_at r (u ∷ c) cut begins =
        let both : k.Comma ∷ after ≡ u ∷ (c ++ r) = sym is ∙ cut in
        let here = comma_prefix u c begins.more (sym (heads both)) refl (rest_shape begins.text) in
        ⊎_elim
        (λ within. omega (arith, none.reach.furthest c r (tails both) (record { more = within.0; tree = here.2; text = subst (λ v. Derives labels rule.Conditional v here.2) within.1 here.5 })))
        (λ over. absurd (none.none here.0 (over.0 ++ r) here.2 (tails both ∙ ap (λ v. v ++ r) over.1 ∙ append_assoc here.0 over.0 r) here.5))
        (cut_twice c begins.more here.0 here.1 here.4)

-- neither a comma nor `)`
pub unclosed : {labels : Labels} {g : Func} {ts next : List Kind} {n : ℕ} {x : Expr} {ys : List Expr} → ArgumentsSoFar labels g ts next n x ys
    → ((r : List Kind) → next ≡ k.Comma ∷ r → takes g (length ys + 1) ≡ true → ⊥) → ((r : List Kind) → next ≡ k.Close ∷ r → takes g (length ys) ≡ true → ⊥) → Missing (IsArguments labels g) ts n
unclosed {labels = labels} {g = g} {ts = ts} {next = next} {n = n} {ys = ys} so_far no_comma no_close = record {
  none = λ p r zs cut text. let part = so_far.texts p r zs cut text in no_rest part.0 r part.2 (rest_shape part.3);
  reach = reach_begun so_far.begun (λ p r cut begins. ⊎_elim (λ short. short) (λ part. prefix_at r part.0 part.1 part.2) (so_far.prefixes p r cut begins));
}
  where
    no_rest : (c r : List Kind) → next ≡ c ++ r → RestShape labels g (length ys) c → ⊥
    no_rest c r cut (closes here fits) = no_close r (cut ∙ ap (λ v. v ++ r) here) fits
    no_rest c r cut (goes a b z zs here fits first more) = no_comma ((a ++ b) ++ r) (cut ∙ ap (λ v. v ++ r) here) fits

    no_first : (u : Kind) (c more r : List Kind) {h : List Kind} → next ≡ u ∷ (c ++ r) → u ∷ (c ++ more) ≡ h → RestShape labels g (length ys) h → ⊥
    no_first u c more r cut equal (closes here fits) = no_close (c ++ r) (cut ∙ ap (λ v. v ∷ (c ++ r)) (heads (equal ∙ here))) fits
    no_first u c more r cut equal (goes a b z zs here fits first others) = no_comma (c ++ r) (cut ∙ ap (λ v. v ∷ (c ++ r)) (heads (equal ∙ here))) fits

    prefix_at : (r c : List Kind) → next ≡ c ++ r → IsPrefix (IsRest labels g (length ys)) c → n ≤ length r
    prefix_at r [] cut begins = omega (arith, ap length cut, so_far.past)
    prefix_at r (u ∷ c) cut begins = absurd (no_first u c begins.more r cut refl (rest_shape begins.text))

-- `)` after all arguments
pub arguments_whole : {labels : Labels} {g : Func} {ts next after : List Kind} {n : ℕ} {x : Expr} {ys : List Expr} → ArgumentsSoFar labels g ts next n x ys → next ≡ k.Close ∷ after → takes g (length ys) ≡ true
    → (front : List Kind) × (ts ≡ front ++ after) × IsArguments labels g front (x ∷ ys)
arguments_whole {g = g} {after = after} {ys = ys} so_far is fits =
    let same : 0 + length ys ≡ length ys = omega arith in (
      so_far.a ++ (so_far.b ++ (k.Close ∷ [])),
      so_far.cut ∙ append_assoc so_far.a so_far.b _ ∙ ap (λ v. so_far.a ++ (so_far.b ++ v)) is ∙ ap (λ v. so_far.a ++ v) (sym (append_assoc so_far.b (k.Close ∷ []) after)) ∙ sym (append_assoc so_far.a (so_far.b ++ (k.Close ∷ [])) after),
      arguments so_far.first (rest (ap (takes g) same ∙ fits) so_far.others),
    )

-- ---- the `(` before the arguments

-- the arguments behind `(`
pub called_behind : {labels : Labels} {g : Func} {ts us : List Kind} → ts ≡ k.Open ∷ us → Behind (IsArguments labels g) (IsCalled labels g) (λ xs. xs) ts us
called_behind {labels = labels} {g = g} {ts = ts} {us = us} is = record {
  before = k.Open ∷ [];
  cut = is;
  up = λ p xs text. called text;
  texts = λ p r xs cut text. inr (opened is p r xs cut text);
  prefixes = λ p r cut begins. prefixes p r cut begins;
}
  where
    opened : ts ≡ k.Open ∷ us → (p r : List Kind) (xs : List Expr) → ts ≡ p ++ r → IsCalled labels g p xs → (q : List Kind) × (zs : List Expr) × (us ≡ q ++ r) × IsArguments labels g q zs
    opened here p r xs cut (called {a = a} text) = (a, xs, tails (sym here ∙ cut), text)

    inside : {h : List Kind} {xs : List Expr} (u : Kind) (p more : List Kind) → IsCalled labels g h xs → u ∷ (p ++ more) ≡ h → IsPrefix (IsArguments labels g) p
    inside {xs = xs} u p more (called {a = a} text) equal = record { more = more; tree = xs; text = subst (λ v. IsArguments labels g v xs) (sym (tails equal)) text }

    prefixes : (p r : List Kind) → ts ≡ p ++ r → IsPrefix (IsCalled labels g) p → (length us ≤ length r) ⊎ ((q : List Kind) × (us ≡ q ++ r) × IsPrefix (IsArguments labels g) q)
    prefixes [] r cut begins = inl (omega (arith, ap length cut, ap length is))
    prefixes (u ∷ p) r cut begins = inr (p, tails (sym is ∙ cut), inside u p begins.more begins.text refl)

-- and no other way
pub called_text : {labels : Labels} {g : Func} {ts us : List Kind} → ts ≡ k.Open ∷ us → (p r : List Kind) (xs : List Expr) → ts ≡ p ++ r → IsCalled labels g p xs
    → (q : List Kind) × (zs : List Expr) × (us ≡ q ++ r) × IsArguments labels g q zs
called_text is p r xs cut (called {a = a} text) = (a, xs, tails (sym is ∙ cut), text)

-- no `(`
pub unopened : {labels : Labels} {g : Func} {ts : List Kind} → ((r : List Kind) → ts ≡ k.Open ∷ r → ⊥) → Missing (IsCalled labels g) ts (length ts)
unopened {labels = labels} {g = g} {ts = ts} none = record {
  none = λ p r xs cut text. no_text p r xs cut text;
  reach = reach_nil (nothing (least_rest labels g)) (λ p r cut begins. empty p r cut begins);
}
  where
    no_text : (p r : List Kind) (xs : List Expr) → ts ≡ p ++ r → IsCalled labels g p xs → ⊥
    no_text p r xs cut (called {a = a} text) = none (a ++ r) cut

    nothing : LeastRest labels g → IsPrefix (IsCalled labels g) []
    nothing least = record { more = k.Open ∷ ((k.True ∷ []) ++ least.tokens); tree = e.Truth true ∷ least.trees; text = called (arguments (truth rule.Conditional) least.text) }

    first : {h : List Kind} {xs : List Expr} (u : Kind) (p : List Kind) → IsCalled labels g h xs → u ∷ p ≡ h → u ≡ k.Open
    first u p (called text) equal = heads equal

    empty : (p r : List Kind) → ts ≡ p ++ r → IsPrefix (IsCalled labels g) p → p ≡ []
    empty [] r cut begins = refl
    empty (u ∷ p) r cut begins = absurd (none (p ++ r) (cut ∙ ap (λ v. v ∷ (p ++ r)) (first u (p ++ begins.more) begins.text refl)))
