-- The values of expressions, form by form.
use Rattle.std.proofs.Common.{◌≡◌, ℕ, List, map, sym, ap, ◌∙◌}
use Rattle.std.specs.Prelude.{if◌then◌else◌}
use Rattle.chain_model.specs.declared.values.LabelValues.{LabelValues}
use Rattle.chain_model.specs.declared.expressions.Typed.{Typed}
use Rattle.chain_model.specs.declared.values.Sort.{Sort}
use Rattle.chain_model.specs.declared.expressions.Form.{Form, roll-Form, map-Form}
use Rattle.chain_model.specs.declared.expressions.Form.TheVariants as f
use Rattle.chain_model.specs.declared.expressions.Form.TheOpen.{Form-F}
use Rattle.chain_model.specs.declared.expressions.Form.TheOpen as top
use Rattle.chain_model.specs.declared.expressions.Form.TheFolds.{fold-Form, fold-roll-Form, fold-roll-Typed}
use Rattle.chain_model.specs.declared.expressions.Func.{Func}
use Rattle.chain_model.specs.declared.expressions.Op.{Op}
use Rattle.chain_model.specs.Results.{◌>>=◌}
use Rattle.chain_model.specs.States.{State}
use Rattle.chain_model.specs.Values.{Valued, form_value, truth, value_with, variable_value, level_value, call_value}
use Rattle.guard_code.specs.Tests.{number_in}
use Rattle.guard_code.specs.Means.{negation, opposite_value}

-- the value of a form of some sort
abbrev form_with : LabelValues → State → Form → Sort → Valued
form_with labels state = fold-Form (Sort → Valued) Valued (form_value labels state) (λ t. t.form t.sort)

-- the value of an expression by those of the parts of its form
layer : (expr : Typed) (d : Form-F Form Typed) → expr.form ≡ roll-Form d → (labels : LabelValues) (state : State)
    → value_with labels state expr ≡ form_value labels state (map-Form Form Typed (Sort → Valued) Valued (form_with labels state) (value_with labels state) d) expr.sort
layer expr d is labels state =
    ap (value_with labels state) (let same : expr ≡ record { sort = expr.sort; form = roll-Form d } = λ i. record { sort = expr.sort; form = is i } in same)
    ∙ fold-roll-Typed (Sort → Valued) Valued (form_value labels state) (λ t. t.form t.sort) (record { sort = expr.sort; form = roll-Form d })
    ∙ ap (λ (g : Sort → Valued). g expr.sort) (fold-roll-Form (Sort → Valued) Valued (form_value labels state) (λ t. t.form t.sort) d)

pub value-var : (expr : Typed) (n : ℕ) → expr.form ≡ f.Var n → (labels : LabelValues) (state : State)
    → value_with labels state expr ≡ variable_value expr.sort (number_in state n)
value-var expr n is labels state = layer expr (top.Var n) (is ∙ sym (f.rolls-Var n)) labels state

pub value-not : (expr part : Typed) → expr.form ≡ f.Not part → (labels : LabelValues) (state : State)
    → value_with labels state expr ≡ negation (value_with labels state part)
value-not expr part is labels state = layer expr (top.Not part) (is ∙ sym (f.rolls-Not part)) labels state

pub value-minus : (expr part : Typed) → expr.form ≡ f.Minus part → (labels : LabelValues) (state : State)
    → value_with labels state expr ≡ opposite_value (value_with labels state part)
value-minus expr part is labels state = layer expr (top.Minus part) (is ∙ sym (f.rolls-Minus part)) labels state

pub value-call : (expr : Typed) (func : Func) (parts : List Typed) → expr.form ≡ f.Call func parts → (labels : LabelValues) (state : State)
    → value_with labels state expr ≡ call_value func (map (value_with labels state) parts)
value-call expr func parts is labels state = layer expr (top.Call func parts) (is ∙ sym (f.rolls-Call func parts)) labels state

pub value-level : (expr : Typed) (parts : List Typed) (ops : List Op) → expr.form ≡ f.Level parts ops → (labels : LabelValues) (state : State)
    → value_with labels state expr ≡ level_value (map (value_with labels state) parts) ops
value-level expr parts ops is labels state = layer expr (top.Level parts ops) (is ∙ sym (f.rolls-Level parts ops)) labels state

pub value-if : (expr condition first second : Typed) → expr.form ≡ f.If condition first second → (labels : LabelValues) (state : State)
    → value_with labels state expr
    ≡ (value_with labels state condition >>= λ a. if truth a then value_with labels state first else value_with labels state second)
value-if expr condition first second is labels state = layer expr (top.If condition first second) (is ∙ sym (f.rolls-If condition first second)) labels state
