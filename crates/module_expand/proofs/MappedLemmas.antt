-- What a call gave, where only its fault was changed.
use Rattle.std.proofs.Common.{◌≡◌, sym, ap, ◌∙◌, subst}
use Rattle.std.specs.Prelude.{Result, Ok, Err, MatchResult, IfOk}
use Rattle.std.specs.Result.{IsErrAnd, result_unwrap_or}

pub of_mapped : {T E F : Type 0} (r : Result T E) (s : Result T F) (x : T) (P : T → Type 0) (G : E → F → Type 0)
    → MatchResult r (λ y. s ≡ Ok y) (λ e. IsErrAnd s (G e)) → s ≡ Ok x → IfOk r P → P x
of_mapped {T} {E} {F} (Ok y) s x P G cases is holds =
    let one : Result T F = Ok y in
    let two : Result T F = Ok x in
    let both : one ≡ two = sym cases ∙ is in
    subst P (ap (λ (q : Result T F). result_unwrap_or q x) both) holds
of_mapped {T} {E} {F} (Err e) s x P G cases is holds =
    absurd (let no : IsErrAnd (Ok x) (G e) = subst (λ (q : Result T F). IsErrAnd q (G e)) is cases in no)

-- a call's fault was changed to one of some kind
pub fault_mapped : {T E F : Type 0} (r : Result T E) (s : Result T F) (f : F) (G : E → F → Type 0) (P : F → Type 0)
    → ((e : E) (g : F) → G e g → P g) → MatchResult r (λ y. s ≡ Ok y) (λ e. IsErrAnd s (G e)) → s ≡ Err f → P f
fault_mapped {T} {E} {F} (Ok y) s f G P all cases is =
    absurd (let one : Result T F = Ok y in let two : Result T F = Err f in let both : one ≡ two = sym cases ∙ is in cc)
fault_mapped {T} {E} {F} (Err e) s f G P all cases is = all e f (subst (λ (q : Result T F). IsErrAnd q (G e)) is cases)
