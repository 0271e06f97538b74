-- What each class says of the sides' numbers.
use Rattle.std.proofs.Common.{◌≡◌, ℕ, ◌↔◌, Bool, true, false, cond, nat_le, refl}
use Rattle.std.proofs.lemmas.Bool.{leb-true, le-leb}
use Rattle.sampling_plan.specs.declared.class.Class.{Class}
use Rattle.sampling_plan.specs.declared.class.Class.TheVariants.{Accept, Reject, Close, Go}
use Rattle.wald_test.specs.SequentialTest.{SequentialTest}
use Rattle.wald_test.specs.Side.{number_of, accept_left, accept_right, reject_left, reject_right, CrossesAccept, CrossesReject}
use Rattle.wald_test.specs.Decision.{IsClose, is_close, class_of}

-- the class from three tests
abbrev class_by : Bool → Bool → Bool → Class
class_by close accept reject = cond close Close (cond accept Accept (cond reject Reject Go))

close_when : (close accept reject : Bool) → (class_by close accept reject ≡ Close) ↔ (close ≡ true)
close_when true accept reject = (λ h. refl, λ h. refl)
close_when false true reject = (λ h. cc, λ h. cc)
close_when false false true = (λ h. cc, λ h. cc)
close_when false false false = (λ h. cc, λ h. cc)

accept_when : (close accept reject : Bool) → (class_by close accept reject ≡ Accept) ↔ ((close ≡ true → ⊥) × (accept ≡ true))
accept_when true accept reject = (λ h. cc, λ h. absurd (h.0 refl))
accept_when false true reject = (λ h. ((λ n. cc), refl), λ h. refl)
accept_when false false true = (λ h. cc, λ h. let n : false ≡ true = h.1 in cc)
accept_when false false false = (λ h. cc, λ h. let n : false ≡ true = h.1 in cc)

reject_when : (close accept reject : Bool) → (class_by close accept reject ≡ Reject) ↔ ((close ≡ true → ⊥) × (accept ≡ true → ⊥) × (reject ≡ true))
reject_when true accept reject = (λ h. cc, λ h. absurd (h.0 refl))
reject_when false true reject = (λ h. cc, λ h. absurd (h.1 refl))
reject_when false false true = (λ h. ((λ n. cc), (λ n. cc), refl), λ h. refl)
reject_when false false false = (λ h. cc, λ h. let n : false ≡ true = h.2 in cc)

go_when : (close accept reject : Bool) → (class_by close accept reject ≡ Go) ↔ ((close ≡ true → ⊥) × (accept ≡ true → ⊥) × (reject ≡ true → ⊥))
go_when true accept reject = (λ h. cc, λ h. absurd (h.0 refl))
go_when false true reject = (λ h. cc, λ h. absurd (h.1 refl))
go_when false false true = (λ h. cc, λ h. absurd (h.2 refl))
go_when false false false = (λ h. ((λ n. cc), (λ n. cc), (λ n. cc)), λ h. refl)

-- ---- the same of the counts

pub class_of-Close : (t : SequentialTest) (d f : ℕ) → (class_of t d f ≡ Close) ↔ IsClose t d f
unfolding class_of
class_of-Close t d f = close_when (is_close t d f) _ _

pub class_of-Accept : (t : SequentialTest) (d f : ℕ) → (class_of t d f ≡ Accept) ↔ ((IsClose t d f → ⊥) × CrossesAccept t d f)
unfolding class_of
class_of-Accept t d f =
    let h = accept_when (is_close t d f) (nat_le (number_of (accept_left t) d f) (number_of (accept_right t) d f)) (nat_le (number_of (reject_right t) d f) (number_of (reject_left t) d f)) in
    (λ e. ((h.0 e).0, leb-true _ _ (h.0 e).1), λ p. h.1 (p.0, le-leb _ _ p.1))

pub class_of-Reject : (t : SequentialTest) (d f : ℕ) → (class_of t d f ≡ Reject) ↔ ((IsClose t d f → ⊥) × (CrossesAccept t d f → ⊥) × CrossesReject t d f)
unfolding class_of
class_of-Reject t d f =
    let h = reject_when (is_close t d f) (nat_le (number_of (accept_left t) d f) (number_of (accept_right t) d f)) (nat_le (number_of (reject_right t) d f) (number_of (reject_left t) d f)) in (
      λ e. ((h.0 e).0, (λ crossed. (h.0 e).1 (le-leb _ _ crossed)), leb-true _ _ (h.0 e).2),
      λ p. h.1 (p.0, (λ test. p.1 (leb-true _ _ test)), le-leb _ _ p.2),
    )

pub class_of-Go : (t : SequentialTest) (d f : ℕ) → (class_of t d f ≡ Go) ↔ ((IsClose t d f → ⊥) × (CrossesAccept t d f → ⊥) × (CrossesReject t d f → ⊥))
unfolding class_of
class_of-Go t d f =
    let h = go_when (is_close t d f) (nat_le (number_of (accept_left t) d f) (number_of (accept_right t) d f)) (nat_le (number_of (reject_right t) d f) (number_of (reject_left t) d f)) in (
      λ e. ((h.0 e).0, (λ crossed. (h.0 e).1 (le-leb _ _ crossed)), (λ crossed. (h.0 e).2 (le-leb _ _ crossed))),
      λ p. h.1 (p.0, (λ test. p.1 (leb-true _ _ test)), (λ test. p.2 (leb-true _ _ test))),
    )
