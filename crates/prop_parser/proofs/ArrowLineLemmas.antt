-- A property has a long chain exactly where its tokens have a later arrow.
use Rattle.std.proofs.Common.{◌≡◌, ℕ, ◌+◌, inl, inr, ⊎_elim, Bool, true, false, List, [], ◌∷◌, ◌++◌, length, refl, sym, ◌∙◌, ap, append-nil}
use Rattle.prism_syntax.specs.declared.labels.Labels.TheVariants.{Allowed}
use Rattle.prism_syntax.specs.declared.tokens.Kind.{Kind}
use Rattle.prism_syntax.specs.declared.tokens.Kind.TheVariants as k
use Rattle.prism_syntax.specs.declared.properties.Cmp.{Cmp}
use Rattle.prism_syntax.specs.declared.properties.Time.{Time}
use Rattle.prism_syntax.specs.declared.properties.PathText.{PathText}
use Rattle.prism_syntax.specs.declared.properties.Property.{Property}
use Rattle.prism_syntax.specs.declared.precedence.Precedence.TheVariants as rule
use Rattle.prism_syntax.specs.Properties as line
use Rattle.prism_syntax.specs.Properties.{IsCmp, IsTimeSign, IsTime, IsPath, IsProperty}
use Rattle.prism_expression.specs.Follow.{Ends}
use Rattle.prism_expression.proofs.CompareLemmas.{agreed}
use Rattle.prism_limits.specs.Arrows.{IsLaterArrow, in_paren}
use Rattle.prism_limits.specs.ChainWalk.{is_arrow, begins_arrow}
use Rattle.prism_limits.proofs.ArrowPlaceLemmas.{HasArrow, AfterArrow, after_raised, in_parts, in_tail, in_one}
use Rattle.prism_limits.proofs.LaterArrowLemmas.{after_text}
use Rattle.prism_limits.proofs.TwoArrowLemmas.{HasTwoArrows, two_front, two_rest, two_tail, text_arrows}
use Rattle.prism_limits.proofs.LongChainLemmas.{paren_has, leaf_has}
use Rattle.prism_limits.proofs.OthersLemmas.{is_other, are_others, others_cons, others_append, text_others, others_outside}
use Rattle.prop_parser.specs.Properties.{HasLongTime, HasLongPath, HasLongProperty}

-- no comparison or sign of a time is an arrow, or the word `rewards`
cmp_other : {t : Kind} {c : Cmp} → IsCmp t c → (is_arrow t ≡ false) × (is_other t ≡ true)
cmp_other line.at_least = (refl, refl)
cmp_other line.above = (refl, refl)
cmp_other line.at_most = (refl, refl)
cmp_other line.below = (refl, refl)

sign_other : {t : Kind} {strict : Bool} → IsTimeSign t strict → (is_arrow t ≡ false) × (is_other t ≡ true)
sign_other line.within = (refl, refl)
sign_other line.strict = (refl, refl)

-- what comes after an arrow of a time
after_time : {ks : List Kind} {z : Time} (after rest : List Kind) → IsTime ks z → HasArrow ks rest → AfterArrow Allowed (HasLongTime z) (rest ++ after)
after_time after rest (line.whole {t = t} {value = v} sign) arrow = in_tail t (k.Whole v ∷ []) after rest arrow (sign_other sign).0 (λ inner there. in_one (k.Whole v) after inner there refl)
after_time after rest (line.name {t = t} {n = n} sign) arrow = in_tail t (k.Name n ∷ []) after rest arrow (sign_other sign).0 (λ inner there. in_one (k.Name n) after inner there refl)
after_time after rest (line.paren {t = t} {a = a} {x = x} sign text) arrow =
    in_tail t (k.Open ∷ (a ++ (k.Close ∷ []))) after rest arrow (sign_other sign).0
    (λ outer there. in_tail k.Open (a ++ (k.Close ∷ [])) after outer there refl
    (λ middle others. in_parts a (k.Close ∷ []) after middle others
    (λ inner here. after_raised (in_paren x) (after_text (k.Close ∷ after) inner text refl here))
    (λ inner beyond. in_one k.Close after inner beyond refl)))

-- of a path formula
after_path : {ks : List Kind} {z : PathText} (after rest : List Kind) → IsPath ks z → Ends rule.Conditional after → HasArrow ks rest → AfterArrow Allowed (HasLongPath z) (rest ++ after)
after_path after rest (line.next {a = a} text) ends arrow = in_tail k.X a after rest arrow refl (λ inner there. after_text after inner text ends there)
after_path after rest (line.finally {a = a} {b = b} time text) ends arrow =
    in_tail k.F (a ++ b) after rest arrow refl (λ outer there. in_parts a b after outer there
    (λ inner here. after_raised inl (after_time (b ++ after) inner time here))
    (λ inner beyond. after_raised inr (after_text after inner text ends beyond)))
after_path after rest (line.globally {a = a} {b = b} time text) ends arrow =
    in_tail k.G (a ++ b) after rest arrow refl (λ outer there. in_parts a b after outer there
    (λ inner here. after_raised inl (after_time (b ++ after) inner time here))
    (λ inner beyond. after_raised inr (after_text after inner text ends beyond)))
after_path after rest (line.until {a = a} {b = b} {c = c} first time text) ends arrow =
    in_parts a (k.U ∷ (b ++ c)) after rest arrow
    (λ inner here. after_raised inl (after_text ((k.U ∷ (b ++ c)) ++ after) inner first refl here))
    (λ outer beyond. in_tail k.U (b ++ c) after outer beyond refl (λ middle there. in_parts b c after middle there
    (λ inner here. after_raised (λ long. inr (inl long)) (after_time (c ++ after) inner time here))
    (λ inner later. after_raised (λ long. inr (inr long)) (after_text after inner text ends later))))

-- of a property
after_property : {ks : List Kind} {z : Property} (after rest : List Kind) → IsProperty ks z → HasArrow ks rest → AfterArrow Allowed (HasLongProperty z) (rest ++ after)
after_property after rest (line.property {t = t} {a = a} {b = b} cmp bound path) arrow =
    in_tail k.P (t ∷ (a ++ (k.OpenBracket ∷ (b ++ (k.CloseBracket ∷ []))))) after rest arrow refl
    (λ outer there. in_tail t (a ++ (k.OpenBracket ∷ (b ++ (k.CloseBracket ∷ [])))) after outer there (cmp_other cmp).0
    (λ middle others. in_parts a (k.OpenBracket ∷ (b ++ (k.CloseBracket ∷ []))) after middle others
    (λ inner here. after_raised inl (after_text ((k.OpenBracket ∷ (b ++ (k.CloseBracket ∷ []))) ++ after) inner bound refl here))
    (λ inner beyond. in_tail k.OpenBracket (b ++ (k.CloseBracket ∷ [])) after inner beyond refl
    (λ inmost ahead. in_parts b (k.CloseBracket ∷ []) after inmost ahead
    (λ last here. after_raised inr (after_path (k.CloseBracket ∷ after) last path refl here))
    (λ last closing. in_one k.CloseBracket after last closing refl)))))

-- a later arrow stands in the tokens of a tree with a long chain
pub later_property : {ks : List Kind} {z : Property} {index : ℕ} → IsProperty ks z → IsLaterArrow Allowed ks index → HasLongProperty z
later_property text arrow =
    let next : AfterArrow _ _ _ = after_property [] (arrow.operand ++ (k.Implies ∷ arrow.after)) text (arrow.before, arrow.cut) in
    let same = agreed next.text arrow.text (sym next.cut ∙ append-nil (arrow.operand ++ (k.Implies ∷ arrow.after))) next.ends refl in
    next.long (ap begins_arrow same.1)

-- the tokens of a time, a path formula or a property have no word `rewards`
time_others : {ks : List Kind} {z : Time} → IsTime ks z → are_others ks ≡ true
time_others (line.whole {t = t} {value = v} sign) = others_cons t (k.Whole v ∷ []) (sign_other sign).1 refl
time_others (line.name {t = t} {n = n} sign) = others_cons t (k.Name n ∷ []) (sign_other sign).1 refl
time_others (line.paren {t = t} {a = a} sign text) = others_cons t (k.Open ∷ (a ++ (k.Close ∷ []))) (sign_other sign).1 (others_append a (k.Close ∷ []) (text_others text) refl)

path_others : {ks : List Kind} {z : PathText} → IsPath ks z → are_others ks ≡ true
path_others (line.next text) = text_others text
path_others (line.finally {a = a} {b = b} time text) = others_append a b (time_others time) (text_others text)
path_others (line.globally {a = a} {b = b} time text) = others_append a b (time_others time) (text_others text)
path_others (line.until {a = a} {b = b} {c = c} first time text) = others_append a (k.U ∷ (b ++ c)) (text_others first) (others_append b c (time_others time) (text_others text))

property_others : {ks : List Kind} {z : Property} → IsProperty ks z → are_others ks ≡ true
property_others (line.property {t = t} {a = a} {b = b} cmp bound path) =
    others_cons t (a ++ (k.OpenBracket ∷ (b ++ (k.CloseBracket ∷ [])))) (cmp_other cmp).1
    (others_append a (k.OpenBracket ∷ (b ++ (k.CloseBracket ∷ []))) (text_others bound) (others_append b (k.CloseBracket ∷ []) (path_others path) refl))

-- two arrows of one chain stand in the tokens of a tree with a long chain
time_two : {ks : List Kind} {z : Time} → IsTime ks z → HasLongTime z → HasTwoArrows Allowed ks
time_two (line.whole {value = v} sign) long = absurd (leaf_has Allowed (k.Whole v) _ refl long)
time_two (line.name {n = n} sign) long = absurd (leaf_has Allowed (k.Name n) _ refl long)
time_two (line.paren {t = t} sign text) long = two_tail t (two_tail k.Open (two_front (k.Close ∷ []) (text_arrows text (paren_has long))))

path_two : {ks : List Kind} {z : PathText} → IsPath ks z → HasLongPath z → HasTwoArrows Allowed ks
path_two (line.next text) long = two_tail k.X (text_arrows text long)
path_two (line.finally {a = a} {b = b} time text) long = two_tail k.F (⊎_elim (λ here. two_front b (time_two time here)) (λ there. two_rest a (text_arrows text there)) long)
path_two (line.globally {a = a} {b = b} time text) long = two_tail k.G (⊎_elim (λ here. two_front b (time_two time here)) (λ there. two_rest a (text_arrows text there)) long)
path_two (line.until {a = a} {b = b} {c = c} first time text) long =
    ⊎_elim (λ here. two_front (k.U ∷ (b ++ c)) (text_arrows first here))
    (λ there. two_rest a (two_tail k.U (⊎_elim (λ here. two_front c (time_two time here)) (λ later. two_rest b (text_arrows text later)) there))) long

property_two : {ks : List Kind} {z : Property} → IsProperty ks z → HasLongProperty z → HasTwoArrows Allowed ks
property_two (line.property {t = t} {a = a} {b = b} cmp bound path) long =
    two_tail k.P (two_tail t (⊎_elim
    (λ here. two_front (k.OpenBracket ∷ (b ++ (k.CloseBracket ∷ []))) (text_arrows bound here))
    (λ there. two_rest a (two_tail k.OpenBracket (two_front (k.CloseBracket ∷ []) (path_two path there))))
    long))

-- the second of the two is a later arrow
pub property_later : {ks : List Kind} {z : Property} → IsProperty ks z → HasLongProperty z → (index : ℕ) × IsLaterArrow Allowed ks index
property_later text long =
    let two = property_two text long in (
      length two.before + (1 + length two.operand),
      record {
        before = two.before;
        operand = two.operand;
        after = two.after;
        tree = two.tree;
        cut = two.cut;
        count = refl;
        text = two.text;
        outside = others_outside two.before (k.Implies ∷ (two.operand ++ (k.Implies ∷ two.after))) (ap are_others (sym two.cut) ∙ property_others text);
      },
    )
