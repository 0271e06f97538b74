-- All of the tokens are a property, or they are none.
use Rattle.std.proofs.Common.{◌≡◌, ℕ, List, [], ◌∷◌, ◌++◌, length, refl, sym, ◌∙◌, ap, subst, append-nil, arith}
use Rattle.std.proofs.lemmas.List.{length-map}
use Rattle.prism_syntax.specs.declared.tokens.Kind.{Kind}
use Rattle.prism_syntax.specs.declared.tokens.Token.{Token}
use Rattle.prism_syntax.specs.declared.properties.Property.{Property}
use Rattle.prism_syntax.specs.Tokens.{kinds}
use Rattle.prism_syntax.specs.Properties.{IsProperty}
use Rattle.prism_reading.specs.Reading.{Anything, Parses, Fails}
use Rattle.prism_reading.proofs.DefiniteLemmas.{kinds_cut}
use Rattle.prism_reading.proofs.ReachLemmas.{reach_one}
use Rattle.prism_parser.specs.Outcome.{IsNoText}
use Rattle.prism_parser.proofs.OutcomeLemmas.{IsDecided}
use Rattle.prop_parser.proofs.DefiniteLineLemmas.{property_definite}

-- no tokens are left
no_tokens : (rest : List Token) → length rest ≡ 0 → kinds rest ≡ []
no_tokens [] none = refl
no_tokens (t ∷ ts) none = absurd (omega arith)

-- so the text is whole
pub whole_text : {ts rest : List Token} {z : Property} {left : ℕ} → Parses IsProperty Anything ts z rest left → length rest ≡ 0 → IsProperty (kinds ts) z
whole_text {rest = rest} {z = z} one none =
    subst (λ l. IsProperty l z) (sym (append-nil (kinds one.prefix)) ∙ ap (λ l. kinds one.prefix ++ l) (sym (no_tokens rest none)) ∙ sym (kinds_cut one)) one.text

-- some are
pub whole_missing : {ts rest : List Token} {z : Property} → Parses IsProperty Anything ts z rest (length rest) → (length rest ≡ 0 → ⊥) → IsNoText IsProperty (kinds ts) (length rest)
whole_missing {ts = ts} {rest = rest} {z = z} one some = record {
  none = λ tree text.
      let same = property_definite.agrees (kinds one.prefix) (kinds ts) (kinds rest) [] z tree one.text text tt tt (sym (kinds_cut one) ∙ sym (append-nil (kinds ts))) in
      let size : length (kinds rest) ≡ 0 = ap length same.0 in
      let count = length-map rest (λ t. t.kind) in
      some (omega arith);
  reach = one.reach;
}

-- where the tokens begin with none they are none
pub none_whole : {ts : List Token} {left : ℕ} → Fails IsProperty Anything ts left → IsNoText IsProperty (kinds ts) left
none_whole {ts = ts} fails = record { none = λ tree text. fails.none (kinds ts) [] tree (sym (append-nil (kinds ts))) text tt; reach = fails.reach }

-- tokens are one property, or none
pub property_decided : (ts : List Kind) → IsDecided (IsProperty ts) (IsNoText IsProperty ts)
property_decided ts = record {
  one = λ x y first second. (property_definite.agrees ts ts [] [] x y first second tt tt refl).1;
  apart = λ x left text none. none.none x text;
  same = λ m n first second. reach_one first.reach second.reach;
}
