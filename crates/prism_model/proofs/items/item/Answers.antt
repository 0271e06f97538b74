use Rattle.prism_model.proofs.TokenLemmas.{first_of, starts_with}
use Rattle.prism_reading.proofs.AnswerLemmas.{passed}
use Rattle.prism_model.proofs.ItemLemmas.{const_items, formula_items, global_items, item_found, item_missing, label_items, module_items, no_item_at_end, no_word, rewards_items}
use Rattle.prism_model.proofs.items.item.Goals as goal

pub returns-in_err-constant-in-Const : goal.returns-in_err-constant-in-Const
returns-in_err-constant-in-Const c = passed _ _ _ c.in_err-constant-in-Const.field-0.0 c.from_residual.result c.from_residual.ensures.1 c.in_err-constant-in-Const.ensures (λ left none. item_missing _ _ left const_items (starts_with c.args.tokens.now c.first-item.result _ c.in-len1-up.len_at_least c.first-item.is c.in-Const.is) none)

pub returns-in_ok-constant-in-Const : goal.returns-in_ok-constant-in-Const
returns-in_ok-constant-in-Const c = item_found const_items c.in_ok-constant-in-Const.ensures

pub returns-in_err-variable-in-Global : goal.returns-in_err-variable-in-Global
returns-in_err-variable-in-Global c = passed _ _ _ c.in_err-variable-in-Global.field-0.0 c.from_residual-in_err-variable-in-Global.result c.from_residual-in_err-variable-in-Global.ensures.1 c.in_err-variable-in-Global.ensures (λ left none. item_missing _ _ left global_items (starts_with c.args.tokens.now c.first-item.result _ c.in-len1-up.len_at_least c.first-item.is c.in-Global.is) none)

pub returns-in_ok-variable-in-Global : goal.returns-in_ok-variable-in-Global
returns-in_ok-variable-in-Global c = item_found global_items c.in_ok-variable-in-Global.ensures

pub returns-in_err-formula-in-Formula : goal.returns-in_err-formula-in-Formula
returns-in_err-formula-in-Formula c = passed _ _ _ c.in_err-formula-in-Formula.field-0.0 c.from_residual-in_err-formula-in-Formula.result c.from_residual-in_err-formula-in-Formula.ensures.1 c.in_err-formula-in-Formula.ensures (λ left none. item_missing _ _ left formula_items (starts_with c.args.tokens.now c.first-item.result _ c.in-len1-up.len_at_least c.first-item.is c.in-Formula.is) none)

pub returns-in_ok-formula-in-Formula : goal.returns-in_ok-formula-in-Formula
returns-in_ok-formula-in-Formula c = item_found formula_items c.in_ok-formula-in-Formula.ensures

pub returns-in_err-module-in-Module : goal.returns-in_err-module-in-Module
returns-in_err-module-in-Module c = passed _ _ _ c.in_err-module-in-Module.field-0.0 c.from_residual-in_err-module-in-Module.result c.from_residual-in_err-module-in-Module.ensures.1 c.in_err-module-in-Module.ensures (λ left none. item_missing _ _ left module_items (starts_with c.args.tokens.now c.first-item.result _ c.in-len1-up.len_at_least c.first-item.is c.in-Module.is) none)

pub returns-in_ok-module-in-Module : goal.returns-in_ok-module-in-Module
returns-in_ok-module-in-Module c = item_found module_items c.in_ok-module-in-Module.ensures

pub returns-in_err-label-in-Label : goal.returns-in_err-label-in-Label
returns-in_err-label-in-Label c = passed _ _ _ c.in_err-label-in-Label.field-0.0 c.from_residual-in_err-label-in-Label.result c.from_residual-in_err-label-in-Label.ensures.1 c.in_err-label-in-Label.ensures (λ left none. item_missing _ _ left label_items (starts_with c.args.tokens.now c.first-item.result _ c.in-len1-up.len_at_least c.first-item.is c.in-Label.is) none)

pub returns-in_ok-label-in-Label : goal.returns-in_ok-label-in-Label
returns-in_ok-label-in-Label c = item_found label_items c.in_ok-label-in-Label.ensures

pub returns-in_err-rest-in-Rewards : goal.returns-in_err-rest-in-Rewards
returns-in_err-rest-in-Rewards c = passed _ _ _ c.in_err-rest-in-Rewards.field-0.0 c.from_residual-in_err-rest-in-Rewards.result c.from_residual-in_err-rest-in-Rewards.ensures.1 c.in_err-rest-in-Rewards.ensures (λ left none. item_missing _ _ left rewards_items (starts_with c.args.tokens.now c.first-item.result _ c.in-len1-up.len_at_least c.first-item.is c.in-Rewards.is) none)

pub returns-in_ok-rest-in-Rewards : goal.returns-in_ok-rest-in-Rewards
returns-in_ok-rest-in-Rewards c = item_found rewards_items c.in_ok-rest-in-Rewards.ensures

pub returns-in-empty : goal.returns-in-empty
returns-in-empty c = no_item_at_end c.args.tokens.now c.in-empty.len_below

pub returns-in_default : goal.returns-in_default
returns-in_default c =
    no_word c.args.tokens.now _ c.first-item.result (first_of c.args.tokens.now c.first-item.result c.in-len1-up.len_at_least c.first-item.is)
    c.in_default.not-Const c.in_default.not-Global c.in_default.not-Formula c.in_default.not-Module c.in_default.not-Label c.in_default.not-Rewards
