-- Tokens begin a level exactly where they are a prefix of one of its texts.
use Rattle.std.proofs.Common.{◌≡◌, suc, ◌+◌, true, List, [], ◌∷◌, ◌++◌, length, Some, refl, sym, ap, ◌∙◌, subst, ⊎_elim, arith}
use Rattle.std.proofs.lemmas.List.{append_assoc, append-nil, length-append}
use Rattle.prism_syntax.specs.declared.labels.Labels.{Labels}
use Rattle.prism_syntax.specs.declared.tokens.Kind.{Kind}
use Rattle.prism_syntax.specs.declared.tokens.Kind.TheVariants as k
use Rattle.prism_syntax.specs.declared.expressions.Expr.{Expr}
use Rattle.prism_syntax.specs.declared.expressions.Expr.TheVariants as e
use Rattle.prism_syntax.specs.declared.expressions.Func.{Func}
use Rattle.prism_syntax.specs.declared.expressions.Op.{Op}
use Rattle.prism_syntax.specs.declared.precedence.Precedence.{Precedence}
use Rattle.prism_syntax.specs.declared.precedence.Precedence.TheVariants as rule
use Rattle.prism_syntax.specs.Precedence.{inner, is_chain, is_sign, signed, operator, function, takes}
use Rattle.prism_syntax.specs.Expressions.{Derives, chain, bare, sign, plain, conditional, leaf, paren, call, ChainTail, end, link, Arguments, last, argument, level}
use Rattle.prism_reading.specs.Reach.{IsPrefix}
use Rattle.prism_reading.proofs.ReachLemmas.{whole_prefix, cut_twice, heads, tails}
use Rattle.prism_expression.specs.Begins.{Begins, empty, whole, in_first, in_operand, in_bare, in_signed, in_condition, in_then, in_else, in_parentheses, in_function, in_argument, in_further_argument}
use Rattle.prism_expression.specs.Parts.{IsArguments, called}
use Rattle.prism_expression.proofs.TextLemmas.{ChainText, chain_text, chain_texts}
use Rattle.prism_expression.proofs.TruthLemmas.{truth, derives_nothing}
use Rattle.prism_expression.proofs.ChainLemmas.{operand_begins, operator_begins, tail_more}
use Rattle.prism_expression.proofs.CallLemmas.{takes_next, argument_begins, comma_begins, arguments_more}
use Rattle.prism_expression.proofs.PrimaryLemmas.{called_call}

-- ---- what begins a text is a prefix of one

-- a prefix under a conversion of its tokens
moved : {X : Type 0} {Rule : List Kind → X → Type 0} {a b : List Kind} → a ≡ b → IsPrefix Rule a → IsPrefix Rule b
moved {Rule = Rule} is begins = subst (λ v. IsPrefix Rule v) is begins

-- an operator after a chain
after_chain : {labels : Labels} {l : Precedence} {a b : List Kind} {x : Expr} {o : Op} (t : Kind) → is_chain l ≡ true → ChainText labels l a x → operator l t ≡ Some o → IsPrefix (Derives labels (inner l)) b
    → IsPrefix (Derives labels l) (a ++ (t ∷ b))
after_chain {b = b} {o = o} t is_true (chain_text {a = c} {b = d} operand tail) found begins = moved (append_assoc (c ++ d) (t ∷ []) b) (operator_begins t o is_true operand tail found begins)

-- the arguments of a call behind its name
in_call : {labels : Labels} {t : Kind} {f : Func} {p : List Kind} → function t ≡ Some f → IsPrefix (IsArguments labels f) p → IsPrefix (Derives labels rule.Primary) (t ∷ (k.Open ∷ p))
in_call {f = f} is begins = record { more = begins.more; tree = e.Call f begins.tree; text = called_call is (called begins.text) }

pub begins_prefix : {labels : Labels} {l : Precedence} {f : List Kind} → Begins labels l f → IsPrefix (Derives labels l) f
begins_prefix {labels = labels} {l = l} empty = derives_nothing labels l
begins_prefix {labels = labels} {l = l} (whole {a = a} {x = x} text) = whole_prefix (Derives labels l) a x text
begins_prefix (in_first is_true begins) = operand_begins is_true (begins_prefix begins)
begins_prefix (in_operand t is_true text found begins) = after_chain t is_true (chain_texts is_true text) found (begins_prefix begins)
begins_prefix (in_bare is_true begins) = let p = begins_prefix begins in record { more = p.more; tree = p.tree; text = bare is_true p.text }
begins_prefix {l = l} (in_signed is_true begins) = let p = begins_prefix begins in record { more = p.more; tree = signed l p.tree; text = sign is_true p.text }
begins_prefix (in_condition begins) = let p = begins_prefix begins in record { more = p.more; tree = p.tree; text = plain p.text }
begins_prefix {labels = labels} (in_then {a = a} {b = b} {x = x} first begins) =
    let p = begins_prefix begins in
    let last_part : List Kind = p.more ++ (k.Colon ∷ (k.True ∷ [])) in
    record {
      more = last_part;
      tree = e.If x p.tree (e.Truth true);
      text = subst (λ v. Derives labels rule.Conditional v (e.If x p.tree (e.Truth true)))
          (ap (λ v. a ++ (k.Query ∷ v)) (append_assoc b p.more (k.Colon ∷ (k.True ∷ []))) ∙ sym (append_assoc a (k.Query ∷ b) last_part)) (conditional first p.text (truth rule.Conditional));
    }
begins_prefix {labels = labels} (in_else {a = a} {b = b} {c = c} {x = x} {y = y} first second begins) =
    let p = begins_prefix begins in
    record {
      more = p.more;
      tree = e.If x y p.tree;
      text = subst (λ v. Derives labels rule.Conditional v (e.If x y p.tree))
          (ap (λ v. a ++ (k.Query ∷ v)) (sym (append_assoc b (k.Colon ∷ c) p.more)) ∙ sym (append_assoc a (k.Query ∷ (b ++ (k.Colon ∷ c))) p.more)) (conditional first second p.text);
    }
begins_prefix {labels = labels} (in_parentheses {a = a} begins) =
    let p = begins_prefix begins in
    record { more = p.more ++ (k.Close ∷ []); tree = e.Paren p.tree; text = subst (λ v. Derives labels rule.Primary (k.Open ∷ v) (e.Paren p.tree)) (append_assoc a p.more (k.Close ∷ [])) (paren p.text) }
begins_prefix {labels = labels} (in_function {f = f} is) =
    let p = in_call is (argument_begins f (derives_nothing labels rule.Conditional)) in
    record { more = k.Open ∷ p.more; tree = p.tree; text = p.text }
begins_prefix (in_argument {f = f} is begins) = in_call is (argument_begins f (begins_prefix begins))
begins_prefix (in_further_argument {a = a} {b = b} {c = c} is fits first others begins) =
    in_call is (moved (append_assoc (a ++ b) (k.Comma ∷ []) c) (comma_begins first others fits (begins_prefix begins)))

-- ---- a prefix of a text begins one

begun : {labels : Labels} {l : Precedence} {a b : List Kind} → a ≡ b → Begins labels l a → Begins labels l b
begun {labels = labels} {l = l} is begins = subst (λ v. Begins labels l v) is begins

-- an operand more after a chain
chain_more : {labels : Labels} {l : Precedence} {h a : List Kind} {x y : Expr} (t : Kind) (o : Op) → is_chain l ≡ true → ChainText labels l h x → operator l t ≡ Some o → Derives labels (inner l) a y → (z : Expr) × Derives labels l (h ++ (t ∷ a)) z
chain_more {labels = labels} {l = l} {a = a} {y = y} t o is_true (chain_text {a = c} {b = d} {x = x} {ys = ys} {os = os} operand tail) found text = (
  level x (ys ++ (y ∷ [])) (os ++ (o ∷ [])),
  subst (λ v. Derives labels l v (level x (ys ++ (y ∷ [])) (os ++ (o ∷ [])))) (sym (append_assoc c d (t ∷ a))) (chain is_true operand (tail_more t o a y tail found text)),
)

-- an argument more that a call takes
fits_more : (f : Func) (xs ys : List Expr) (y : Expr) → takes f (length (xs ++ (y ∷ ys))) ≡ true → takes f (length ((xs ++ (y ∷ [])) ++ ys)) ≡ true
fits_more f xs ys y fits = let same : length ((xs ++ (y ∷ [])) ++ ys) ≡ length (xs ++ (y ∷ ys)) = ap length (append_assoc xs (y ∷ []) ys) in ap (takes f) same ∙ fits

-- and one more after some
takes_one : (f : Func) (xs : List Expr) (y : Expr) (zs : List Expr) → takes f (length (xs ++ (y ∷ zs))) ≡ true → takes f (length xs + 1) ≡ true
takes_one f xs y zs fits = let same : length xs + suc (length zs) ≡ length (xs ++ (y ∷ zs)) = omega (arith, length-append xs (y ∷ zs)) in takes_next f (length xs) (length zs) (ap (takes f) same ∙ fits)

-- an operand alone is a chain
operand_alone : {labels : Labels} {l : Precedence} {a : List Kind} {x : Expr} → is_chain l ≡ true → Derives labels (inner l) a x → Derives labels l a x
operand_alone {labels = labels} {l = l} {a = a} {x = x} is_true operand = subst (λ v. Derives labels l v x) (append-nil a) (chain is_true operand end)

-- each prefix of these tokens begins the level
abbrev Cuts : Labels → Precedence → List Kind → Type 0
Cuts labels l g = (f more : List Kind) → f ++ more ≡ g → Begins labels l f

-- each prefix of these further operands behind a chain begins its level
abbrev TailCuts : Labels → Precedence → List Kind → Type 0
TailCuts labels l b = (h : List Kind) (x : Expr) → Derives labels l h x → (c more : List Kind) → c ++ more ≡ b → Begins labels l (h ++ c)

-- each prefix of these further arguments and `)` behind some arguments begins a primary
abbrev ArgumentsCuts : Labels → List Kind → List Expr → Type 0
ArgumentsCuts labels b ys = (t : Kind) (g : Func) (a b0 : List Kind) (x : Expr) (xs : List Expr) → function t ≡ Some g → Derives labels rule.Conditional a x → takes g (length (xs ++ ys)) ≡ true → Arguments labels b0 xs
    → (u : Kind) (d more : List Kind) → u ∷ (d ++ more) ≡ b ++ (k.Close ∷ []) → Begins labels rule.Primary (t ∷ (k.Open ∷ ((a ++ b0) ++ (u ∷ d))))

chain_cuts : {labels : Labels} {l : Precedence} {a b : List Kind} {x : Expr} → is_chain l ≡ true → Derives labels (inner l) a x → Cuts labels (inner l) a → TailCuts labels l b → Cuts labels l (a ++ b)
chain_cuts {a = a} {b = b} {x = x} is_true operand first rest f more is =
    ⊎_elim (λ within. in_first is_true (first f within.0 (sym within.1)))
    (λ beyond. begun (sym beyond.1) (rest a x (operand_alone is_true operand) beyond.0 more (sym beyond.2)))
    (cut_twice f more a b is)

end_cuts : {labels : Labels} {l : Precedence} → TailCuts labels l []
end_cuts h x text [] more is = begun (sym (append-nil h)) (whole text)
end_cuts h x text (u ∷ c) more is = absurd (cc)

link_cuts : {labels : Labels} {l : Precedence} {a b : List Kind} {y : Expr} (t : Kind) (o : Op) → is_chain l ≡ true → operator l t ≡ Some o → Derives labels (inner l) a y → Cuts labels (inner l) a → TailCuts labels l b → TailCuts labels l (t ∷ (a ++ b))
link_cuts t o is_true found operand first rest h x text [] more is = begun (sym (append-nil h)) (whole text)
link_cuts {a = a} {b = b} t o is_true found operand first rest h x text (u ∷ c) more is =
    begun (ap (λ v. h ++ (v ∷ c)) (sym (heads is)))
    (⊎_elim (λ within. in_operand t is_true text found (first c within.0 (sym within.1)))
    (λ beyond.
    let longer = chain_more t o is_true (chain_texts is_true text) found operand in
    begun (append_assoc h (t ∷ a) beyond.0 ∙ ap (λ v. h ++ (t ∷ v)) (sym beyond.1)) (rest (h ++ (t ∷ a)) longer.0 longer.1 beyond.0 more (sym beyond.2)))
    (cut_twice c more a b (tails is)))

sign_cuts : {labels : Labels} {l : Precedence} {a : List Kind} (t : Kind) → is_sign l t ≡ true → Cuts labels l a → Cuts labels l (t ∷ a)
sign_cuts t is_true first [] more is = empty
sign_cuts t is_true first (u ∷ f) more is = begun (ap (λ v. v ∷ f) (sym (heads is))) (in_signed is_true (first f more (tails is)))

-- the second branch
else_cuts : {labels : Labels} {c : List Kind} {x y : Expr} (a b : List Kind) → Derives labels rule.Implication a x → Derives labels rule.Implication b y → Cuts labels rule.Conditional c
    → (d more : List Kind) → d ++ more ≡ k.Colon ∷ c → Begins labels rule.Conditional (a ++ (k.Query ∷ (b ++ d)))
else_cuts a b first second last_part [] more is = begun (ap (λ v. a ++ (k.Query ∷ v)) (sym (append-nil b))) (in_then first (whole second))
else_cuts a b first second last_part (u ∷ d) more is = begun (ap (λ v. a ++ (k.Query ∷ (b ++ (v ∷ d)))) (sym (heads is))) (in_else first second (last_part d more (tails is)))

-- both branches
then_cuts : {labels : Labels} {c : List Kind} {x y : Expr} (a b : List Kind) → Derives labels rule.Implication a x → Derives labels rule.Implication b y → Cuts labels rule.Implication b → Cuts labels rule.Conditional c
    → (d more : List Kind) → d ++ more ≡ k.Query ∷ (b ++ (k.Colon ∷ c)) → Begins labels rule.Conditional (a ++ d)
then_cuts a b first second middle last_part [] more is = begun (sym (append-nil a)) (in_condition (whole first))
then_cuts {c = c} a b first second middle last_part (u ∷ d) more is =
    begun (ap (λ v. a ++ (v ∷ d)) (sym (heads is)))
    (⊎_elim (λ within. in_then first (middle d within.0 (sym within.1)))
    (λ beyond. begun (ap (λ v. a ++ (k.Query ∷ v)) (sym beyond.1)) (else_cuts a b first second last_part beyond.0 more (sym beyond.2)))
    (cut_twice d more b (k.Colon ∷ c) (tails is)))

conditional_cuts : {labels : Labels} {c : List Kind} {x y : Expr} (a b : List Kind) → Derives labels rule.Implication a x → Derives labels rule.Implication b y → Cuts labels rule.Implication a → Cuts labels rule.Implication b
    → Cuts labels rule.Conditional c → Cuts labels rule.Conditional (a ++ (k.Query ∷ (b ++ (k.Colon ∷ c))))
conditional_cuts {c = c} a b first second front middle last_part f more is =
    ⊎_elim (λ within. in_condition (front f within.0 (sym within.1)))
    (λ beyond. begun (sym beyond.1) (then_cuts a b first second middle last_part beyond.0 more (sym beyond.2)))
    (cut_twice f more a (k.Query ∷ (b ++ (k.Colon ∷ c))) is)

leaf_cuts : {labels : Labels} {x : Expr} (t : Kind) → Derives labels rule.Primary (t ∷ []) x → Cuts labels rule.Primary (t ∷ [])
leaf_cuts t text [] more is = empty
leaf_cuts t text (u ∷ []) more is = begun (ap (λ v. v ∷ []) (sym (heads is))) (whole text)
leaf_cuts t text (u ∷ (v ∷ f)) more is = absurd (let none : v ∷ (f ++ more) ≡ [] = tails is in cc)

-- `)` behind an expression
close_cuts : {labels : Labels} {x : Expr} (a : List Kind) → Derives labels rule.Conditional a x → (d more : List Kind) → d ++ more ≡ k.Close ∷ [] → Begins labels rule.Primary (k.Open ∷ (a ++ d))
close_cuts a text [] more is = begun (ap (λ v. k.Open ∷ v) (sym (append-nil a))) (in_parentheses (whole text))
close_cuts a text (u ∷ []) more is = begun (ap (λ v. k.Open ∷ (a ++ (v ∷ []))) (sym (heads is))) (whole (paren text))
close_cuts a text (u ∷ (v ∷ d)) more is = absurd (let none : v ∷ (d ++ more) ≡ [] = tails is in cc)

paren_cuts : {labels : Labels} {x : Expr} (a : List Kind) → Derives labels rule.Conditional a x → Cuts labels rule.Conditional a → Cuts labels rule.Primary (k.Open ∷ (a ++ (k.Close ∷ [])))
paren_cuts a text inside [] more is = empty
paren_cuts a text inside (u ∷ f) more is =
    begun (ap (λ v. v ∷ f) (sym (heads is)))
    (⊎_elim (λ within. in_parentheses (inside f within.0 (sym within.1)))
    (λ beyond. begun (ap (λ v. k.Open ∷ v) (sym beyond.1)) (close_cuts a text beyond.0 more (sym beyond.2)))
    (cut_twice f more a (k.Close ∷ []) (tails is)))

last_cuts : {labels : Labels} → ArgumentsCuts labels [] []
last_cuts t g a b0 x xs found first fits before u [] more is =
    begun (ap (λ v. t ∷ (k.Open ∷ v)) (sym (append_assoc a b0 (k.Close ∷ [])) ∙ ap (λ v. (a ++ b0) ++ (v ∷ [])) (sym (heads is))))
    (whole (call found (ap (takes g) (ap length (sym (append-nil xs))) ∙ fits) first before))
last_cuts t g a b0 x xs found first fits before u (v ∷ d) more is = absurd (let none : v ∷ (d ++ more) ≡ [] = tails is in cc)

-- one more argument, and what stands after it
next_cuts : {labels : Labels} {ys : List Expr} (b : List Kind) (t : Kind) (g : Func) (a b0 c : List Kind) (x y : Expr) (xs : List Expr) → function t ≡ Some g → takes g (length xs + 1) ≡ true → Derives labels rule.Conditional a x
    → takes g (length ((xs ++ (y ∷ [])) ++ ys)) ≡ true → Arguments labels b0 xs → Derives labels rule.Conditional c y → ArgumentsCuts labels b ys → (d more : List Kind) → d ++ more ≡ b ++ (k.Close ∷ [])
    → Begins labels rule.Primary (t ∷ (k.Open ∷ ((a ++ b0) ++ (k.Comma ∷ (c ++ d)))))
next_cuts b t g a b0 c x y xs found room first fits before text rest [] more is =
    begun (ap (λ v. t ∷ (k.Open ∷ ((a ++ b0) ++ (k.Comma ∷ v)))) (sym (append-nil c))) (in_further_argument found room first before (whole text))
next_cuts b t g a b0 c x y xs found room first fits before text rest (u ∷ d) more is =
    begun (ap (λ v. t ∷ (k.Open ∷ v)) (append_assoc a (b0 ++ (k.Comma ∷ c)) (u ∷ d) ∙ ap (λ v. a ++ v) (append_assoc b0 (k.Comma ∷ c) (u ∷ d)) ∙ sym (append_assoc a b0 (k.Comma ∷ (c ++ (u ∷ d))))))
    (rest t g a (b0 ++ (k.Comma ∷ c)) x (xs ++ (y ∷ [])) found first fits (arguments_more c y before text) u d more is)

argument_cuts : {labels : Labels} {c : List Kind} {y : Expr} {ys : List Expr} (b : List Kind) → Derives labels rule.Conditional c y → Cuts labels rule.Conditional c → ArgumentsCuts labels b ys → ArgumentsCuts labels (k.Comma ∷ (c ++ b)) (y ∷ ys)
argument_cuts {c = c} {y = y} {ys = ys} b text inside rest t g a b0 x xs found first fits before u d more is =
    let room : takes g (length xs + 1) ≡ true = takes_one g xs y ys fits in
    begun (ap (λ v. t ∷ (k.Open ∷ ((a ++ b0) ++ (v ∷ d)))) (sym (heads is)))
    (⊎_elim (λ within. in_further_argument found room first before (inside d within.0 (sym within.1)))
    (λ beyond. begun (ap (λ v. t ∷ (k.Open ∷ ((a ++ b0) ++ (k.Comma ∷ v)))) (sym beyond.1))
    (next_cuts b t g a b0 c x y xs found room first (fits_more g xs ys y fits) before text rest beyond.0 more (sym beyond.2)))
    (cut_twice d more c (b ++ (k.Close ∷ [])) (tails is ∙ append_assoc c b (k.Close ∷ []))))

-- behind the first argument
first_cuts : {labels : Labels} {ys : List Expr} (b : List Kind) (t : Kind) (g : Func) (a : List Kind) (x : Expr) → function t ≡ Some g → takes g (length ys) ≡ true → Derives labels rule.Conditional a x → ArgumentsCuts labels b ys
    → (d more : List Kind) → d ++ more ≡ b ++ (k.Close ∷ []) → Begins labels rule.Primary (t ∷ (k.Open ∷ (a ++ d)))
first_cuts b t g a x found fits first rest [] more is = begun (ap (λ v. t ∷ (k.Open ∷ v)) (sym (append-nil a))) (in_argument found (whole first))
first_cuts b t g a x found fits first rest (u ∷ d) more is = begun (ap (λ v. t ∷ (k.Open ∷ (v ++ (u ∷ d)))) (append-nil a)) (rest t g a [] x [] found first fits last u d more is)

call_cuts : {labels : Labels} {ys : List Expr} (b : List Kind) (t : Kind) (g : Func) (a : List Kind) (x : Expr) → function t ≡ Some g → takes g (length ys) ≡ true → Derives labels rule.Conditional a x → Cuts labels rule.Conditional a
    → ArgumentsCuts labels b ys → Cuts labels rule.Primary (t ∷ (k.Open ∷ (a ++ (b ++ (k.Close ∷ [])))))
call_cuts b t g a x found fits first inside rest [] more is = empty
call_cuts b t g a x found fits first inside rest (u ∷ []) more is = begun (ap (λ v. v ∷ []) (sym (heads is))) (in_function found)
call_cuts b t g a x found fits first inside rest (u ∷ (v ∷ f)) more is =
    begun (ap (λ w. w ∷ (k.Open ∷ f)) (sym (heads is)) ∙ ap (λ w. u ∷ (w ∷ f)) (sym (heads (tails is))))
    (⊎_elim (λ within. in_argument found (inside f within.0 (sym within.1)))
    (λ beyond. begun (ap (λ w. t ∷ (k.Open ∷ w)) (sym beyond.1)) (first_cuts b t g a x found fits first rest beyond.0 more (sym beyond.2)))
    (cut_twice f more a (b ++ (k.Close ∷ [])) (tails (tails is))))

mutual
  -- each prefix of a text begins its level
  cuts : {labels : Labels} {l : Precedence} {g : List Kind} {x : Expr} → Derives labels l g x → Cuts labels l g
  cuts (chain is_true operand tail) = chain_cuts is_true operand (cuts operand) (tail_cuts is_true tail)
  cuts (bare is_true operand) = λ f more is. in_bare is_true (cuts operand f more is)
  cuts (sign {t = t} is_true operand) = sign_cuts t is_true (cuts operand)
  cuts (plain text) = λ f more is. in_condition (cuts text f more is)
  cuts (conditional {a = a} {b = b} first second third) = conditional_cuts a b first second (cuts first) (cuts second) (cuts third)
  cuts (leaf {t = t} found) = leaf_cuts t (leaf found)
  cuts (paren {a = a} text) = paren_cuts a text (cuts text)
  cuts (call {t = t} {f = g} {a = a} {b = b} {x = x} found fits first others) = call_cuts b t g a x found fits first (cuts first) (arguments_cuts others)

  -- further operands
  tail_cuts : {labels : Labels} {l : Precedence} {b : List Kind} {ys : List Expr} {os : List Op} → is_chain l ≡ true → ChainTail labels l b ys os → TailCuts labels l b
  tail_cuts is_true end = end_cuts
  tail_cuts is_true (link {t = t} {o = o} found operand tail) = link_cuts t o is_true found operand (cuts operand) (tail_cuts is_true tail)

  -- further arguments
  arguments_cuts : {labels : Labels} {b : List Kind} {ys : List Expr} → Arguments labels b ys → ArgumentsCuts labels b ys
  arguments_cuts last = last_cuts
  arguments_cuts (argument {b = b} text others) = argument_cuts b text (cuts text) (arguments_cuts others)

-- tokens begin a level where they are a prefix of one of its texts
pub prefix_begins : {labels : Labels} {l : Precedence} {f : List Kind} → IsPrefix (Derives labels l) f → Begins labels l f
prefix_begins {f = f} begins = cuts begins.text f begins.more refl
