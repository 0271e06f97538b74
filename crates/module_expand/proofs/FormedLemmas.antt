-- Well-formed trees stay well formed where names are replaced by well-formed trees.
use Rattle.std.proofs.Common.{◌≡◌, List, ◌∷◌, Option, map, length, sym, ap, ◌∙◌, subst, unwrap_or, arith, refl}
use Rattle.std.specs.Prelude.{None, Some}
use Rattle.std.proofs.lemmas.Grind.{common_steps}
use Rattle.prism_syntax.specs.declared.labels.Labels.{Labels}
use Rattle.prism_syntax.specs.declared.labels.Labels.TheVariants.{Allowed, Refused}
use Rattle.prism_syntax.specs.declared.expressions.Expr.{Expr}
use Rattle.prism_syntax.specs.declared.expressions.Expr.TheVariants as e
use Rattle.prism_syntax.specs.Precedence.{takes}
use Rattle.prism_syntax.specs.Replaced.{replaced}
use Rattle.prism_syntax.specs.WellFormed.{IsFormed, AreFormed}
use Rattle.prism_names.specs.First.{Name}
use Rattle.module_expand.proofs.TreeLemmas.{replaced-paren, replaced-not, replaced-minus, replaced-if, replaced-name, replaced-call, replaced-level, replaced-whole, replaced-real, replaced-truth, replaced-quoted}

-- what each name stands for is well formed
abbrev pub StandForFormed : Labels → (Name → Option Expr) → Type 0
StandForFormed labels by = (n : Name) (t : Expr) → by n ≡ Some t → IsFormed labels t

same_length : (by : Name → Option Expr) (xs : List Expr) → length (map (replaced by) xs) ≡ length xs
same_length by xs = grind (arith, common_steps)

mutual
  pub replaced-formed : (labels : Labels) (by : Name → Option Expr) → StandForFormed labels by → {x : Expr}
      → IsFormed labels x → IsFormed labels (replaced by x)
  replaced-formed labels by trees (IsFormed.whole {value} h) =
      subst (IsFormed labels) (sym (replaced-whole by value)) (IsFormed.whole h)
  replaced-formed labels by trees (IsFormed.real {value} h) = subst (IsFormed labels) (sym (replaced-real by value))
      (IsFormed.real h)
  replaced-formed labels by trees (IsFormed.truth {b}) = subst (IsFormed labels) (sym (replaced-truth by b))
      IsFormed.truth
  replaced-formed labels by trees (IsFormed.name {text} h) = subst (IsFormed labels) (sym (replaced-name by text))
      (named (by text) (trees text))
    where
      named : (o : Option Expr) → ((t : Expr) → o ≡ Some t → IsFormed labels t)
          → IsFormed labels (unwrap_or o (e.Name text))
      named None all = IsFormed.name h
      named (Some t) all = all t refl
  replaced-formed labels by trees (IsFormed.quoted {text} allowed h) =
      subst (IsFormed labels) (sym (replaced-quoted by text)) (IsFormed.quoted allowed h)
  replaced-formed labels by trees (IsFormed.paren {x} h) = subst (IsFormed labels) (sym (replaced-paren by x))
      (IsFormed.paren (replaced-formed labels by trees h))
  replaced-formed labels by trees (IsFormed.call {f} {x} {ys} count h hs) =
      subst (IsFormed labels) (sym (replaced-call by f (x ∷ ys)))
      (IsFormed.call (ap (takes f) (same_length by ys) ∙ count) (replaced-formed labels by trees h)
      (all_formed labels by trees hs))
  replaced-formed labels by trees (IsFormed.«not» {x} h) = subst (IsFormed labels) (sym (replaced-not by x))
      (IsFormed.«not» (replaced-formed labels by trees h))
  replaced-formed labels by trees (IsFormed.minus {x} h) = subst (IsFormed labels) (sym (replaced-minus by x))
      (IsFormed.minus (replaced-formed labels by trees h))
  replaced-formed labels by trees (IsFormed.level p {x} {y} {ys} {os} operators count two h hs) =
      subst (IsFormed labels) (sym (replaced-level by (x ∷ (y ∷ ys)) os))
      (IsFormed.level p operators (count ∙ sym (same_length by (y ∷ ys))) (λ is. ap (map (replaced by)) (two is))
      (replaced-formed labels by trees h) (all_formed labels by trees hs))
  replaced-formed labels by trees (IsFormed.conditional {x} {y} {z} h g f) =
      subst (IsFormed labels) (sym (replaced-if by x y z))
      (IsFormed.conditional (replaced-formed labels by trees h) (replaced-formed labels by trees g)
      (replaced-formed labels by trees f))

  pub all_formed : (labels : Labels) (by : Name → Option Expr) → StandForFormed labels by → {xs : List Expr}
      → AreFormed labels xs → AreFormed labels (map (replaced by) xs)
  all_formed labels by trees AreFormed.none = AreFormed.none
  all_formed labels by trees (AreFormed.more h hs) = AreFormed.more (replaced-formed labels by trees h)
      (all_formed labels by trees hs)

mutual
  -- an expression without names of labels is one that may have them
  pub allowed-formed : {x : Expr} → IsFormed Refused x → IsFormed Allowed x
  allowed-formed (IsFormed.whole h) = IsFormed.whole h
  allowed-formed (IsFormed.real h) = IsFormed.real h
  allowed-formed IsFormed.truth = IsFormed.truth
  allowed-formed (IsFormed.name h) = IsFormed.name h
  allowed-formed (IsFormed.quoted allowed h) = IsFormed.quoted refl h
  allowed-formed (IsFormed.paren h) = IsFormed.paren (allowed-formed h)
  allowed-formed (IsFormed.call count h hs) = IsFormed.call count (allowed-formed h) (allowed-all hs)
  allowed-formed (IsFormed.«not» h) = IsFormed.«not» (allowed-formed h)
  allowed-formed (IsFormed.minus h) = IsFormed.minus (allowed-formed h)
  allowed-formed (IsFormed.level p operators count two h hs) = IsFormed.level p operators count two
      (allowed-formed h) (allowed-all hs)
  allowed-formed (IsFormed.conditional h g f) = IsFormed.conditional (allowed-formed h) (allowed-formed g)
      (allowed-formed f)

  allowed-all : {xs : List Expr} → AreFormed Refused xs → AreFormed Allowed xs
  allowed-all AreFormed.none = AreFormed.none
  allowed-all (AreFormed.more h hs) = AreFormed.more (allowed-formed h) (allowed-all hs)
