-- Pairs that are read one after the other.
use Rattle.std.proofs.Common.{◌≡◌, false, List, [], ◌∷◌, ◌++◌, sym, ap, ◌∙◌, subst, append_assoc}
use Rattle.chain_model.specs.declared.constants.Given.{Given}
use Rattle.smc_settings.specs.Options.{Text}
use Rattle.smc_settings.specs.Constants.{IsPair, ArePairs, last, more}
use Rattle.smc_settings.proofs.CutLemmas.{has}
use Rattle.smc_settings.proofs.ConstantLemmas.{first_pair, only_pair}

-- pairs of the rest behind those that were read are pairs of the whole, and a whole that has pairs has some in the rest
abbrev pub IsReadTo : Text → Text → List Given → Type 0
IsReadTo text rest given =
    ((others : List Given) → ArePairs rest others → ArePairs text (given ++ others))
    × ((all : List Given) → ArePairs text all → (others : List Given) × ArePairs rest others)

-- one pair more is read
pub read_more : (text rest first after : Text) (given now : List Given) (one : Given) → rest ≡ first ++ 44 ∷ after → has 44 first ≡ false → IsPair first one
    → now ≡ given ++ one ∷ [] → IsReadTo text rest given → IsReadTo text after now
read_more text rest first after given now one cut plain is pushed so_far = (
  λ others are.
      subst (λ all. ArePairs text all) (sym (append_assoc given (one ∷ []) others) ∙ ap (λ g. g ++ others) (sym pushed))
      (so_far.0 (one ∷ others) (subst (λ t. ArePairs t (one ∷ others)) (sym cut) (more first after one others is are))),
  λ all are.
      let left = so_far.1 all are in
      let found = first_pair rest first after left.0 cut plain left.1 in
      (found.others, found.are),
)

-- the last pair is read
pub read_all : (text rest : Text) (given now : List Given) (one : Given) → IsPair rest one → now ≡ given ++ one ∷ [] → IsReadTo text rest given → ArePairs text now
read_all text rest given now one is pushed so_far = subst (λ all. ArePairs text all) (sym pushed) (so_far.0 (one ∷ []) (last rest one is))

-- where the next one is no pair, there are none
pub read_no_more : (text rest first after : Text) (given : List Given) → rest ≡ first ++ 44 ∷ after → has 44 first ≡ false → ((one : Given) → IsPair first one → ⊥)
    → IsReadTo text rest given → (all : List Given) → ArePairs text all → ⊥
read_no_more text rest first after given cut plain none so_far all are =
    let left = so_far.1 all are in
    let found = first_pair rest first after left.0 cut plain left.1 in
    none found.one found.is

-- and where the last is none
pub read_no_last : (text rest : Text) (given : List Given) → has 44 rest ≡ false → ((one : Given) → IsPair rest one → ⊥)
    → IsReadTo text rest given → (all : List Given) → ArePairs text all → ⊥
read_no_last text rest given plain none so_far all are =
    let left = so_far.1 all are in
    let found = only_pair rest left.0 plain left.1 in
    none found.one found.is
