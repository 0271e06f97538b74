-- Texts of one rule with a token between each two of them.
use Rattle.std.proofs.Common.{◌≡◌, ℕ, ◌<◌, List, [], ◌∷◌, ◌++◌, length, map, refl, sym, ◌∙◌, ap, subst, arith, length-append, append_assoc, append-nil}
use Rattle.std.proofs.lemmas.List.{length-map, map-append}
use Rattle.prism_syntax.specs.declared.tokens.Kind.{Kind}
use Rattle.prism_syntax.specs.declared.tokens.Token.{Token}
use Rattle.prism_syntax.specs.Tokens.{kinds}
use Rattle.prism_syntax.specs.Models.{Each, Separated}
use Rattle.prism_syntax.specs.Models as model
use Rattle.prism_reading.specs.Reach.{IsPrefix}
use Rattle.prism_reading.specs.Reading.{Anything, Parses, Fails}
use Rattle.prism_reading.specs.Sequences.{Both, both, IsTerminal, terminal}
use Rattle.prism_reading.proofs.DefiniteLemmas.{IsDefinite, HasText, Starts, Leads, anything_leads, starts_lead, found, kinds_cut, terminal_definite, terminal_starts}
use Rattle.prism_reading.proofs.BothLemmas.{first_missing, second_missing, inside_both, both_definite, both_starts, both_has}
use Rattle.prism_reading.proofs.MadeLemmas.{Parted, IsMade, made_definite, made_starts}
use Rattle.prism_reading.proofs.EachLemmas.{Repeats, each_definite, each_leads, Onward, onward_more}
use Rattle.prism_reading.proofs.DefiniteLemmas.{terminal_has}

-- what may follow one of several texts with a token between them, and the last of them
pub record Divides {X : Type 0} (between : Kind) (Rule : List Kind → X → Type 0) (Before Follows : List Kind → Type 0) : Type 0 where
  pub one : IsDefinite Rule Before
  pub divider : (r : List Kind) → Before (between ∷ r)
  pub last : (r : List Kind) → Follows r → Before r
  pub apart : (r : List Kind) → Follows (between ∷ r) → ⊥

-- a text after the token between
abbrev pub Further : {X : Type 0} → Kind → (List Kind → X → Type 0) → List Kind → Unit {0} × X → Type 0
Further between Rule = Both (IsTerminal between) Rule

-- the first tree and the further ones
abbrev pub all_trees : {X : Type 0} → X × List (Unit {0} × X) → List X
all_trees p = p.0 ∷ map (λ q. q.1) p.1

joined : {X : Type 0} {Rule : List Kind → X → Type 0} (between : Kind) (a b : List Kind) (x : X) (ps : List (Unit {0} × X))
    → Rule a x → Each (Further between Rule) b ps → Separated between Rule (a ++ b) (x ∷ map (λ q. q.1) ps)
joined between a _ x _ first model.Each.end = rw append-nil (model.Separated.one first)
joined between a _ x _ first (model.Each.more {b = d} (both {b = c} {y} terminal second) others) = model.Separated.more first (joined between c d y _ second others)

joined_both : {X : Type 0} {Rule : List Kind → X → Type 0} (between : Kind) (l : List Kind) (z : X × List (Unit {0} × X))
    → Both Rule (Each (Further between Rule)) l z → Separated between Rule l (all_trees z)
joined_both between _ _ (both {a} {b} {x} {y = ps} first others) = joined between a b x ps first others

one_further : {X : Type 0} {Rule : List Kind → X → Type 0} (between : Kind) (l : List Kind) (z : X × List (Unit {0} × X))
    → Both Rule (Each (Further between Rule)) l z → Each (Further between Rule) (between ∷ l) ((tt, z.0) ∷ z.1)
one_further {Rule} between _ _ (both {a} {b} {x} {y = ps} first others) =
    let further : Further between Rule (between ∷ a) (tt, x) = both terminal first in
    model.Each.more further others

parted : {X : Type 0} {Rule : List Kind → X → Type 0} (between : Kind) (l : List Kind) (xs : List X)
    → Separated between Rule l xs → Parted (Both Rule (Each (Further between Rule))) all_trees l xs
parted {Rule} between _ _ (model.Separated.one {a} {x} first) =
    let whole : Both Rule (Each (Further between Rule)) (a ++ []) (x, []) = both first model.Each.end in
    record { parts = (x, []); text = rw append-nil at whole; is = refl }
parted {Rule} between _ _ (model.Separated.more {a} {b} {x} {xs} first others) =
    let rest = parted between b xs others in
    record {
      parts = (x, (tt, rest.parts.0) ∷ rest.parts.1);
      text = both first (one_further between b rest.parts rest.text);
      is = ap (λ l. x ∷ l) rest.is;
    }

-- several texts are one and each further one
pub separated_made : {X : Type 0} (between : Kind) (Rule : List Kind → X → Type 0) → IsMade (Both Rule (Each (Further between Rule))) all_trees (Separated between Rule)
separated_made between Rule = record { to = λ a p text. joined_both between a p text; back = λ a z text. parted between a z text }

further_repeat : {X : Type 0} {between : Kind} {Rule : List Kind → X → Type 0} {Before Follows : List Kind → Type 0}
    → Divides between Rule Before Follows → Repeats (Further between Rule) Before (λ t. t ≡ between) Follows
further_repeat {between} {Before} {Follows} divides = record {
  one = both_definite (terminal_definite between) anything_leads divides.one;
  starts = both_starts (terminal_starts between);
  next = λ t l is. subst (λ u. Before (u ∷ l)) (sym is) (divides.divider l);
  last = divides.last;
  stop = λ t l follows is. divides.apart l (subst (λ u. Follows (u ∷ l)) is follows);
}

pub separated_definite : {X : Type 0} {between : Kind} {Rule : List Kind → X → Type 0} {Before Follows : List Kind → Type 0}
    → Divides between Rule Before Follows → IsDefinite (Separated between Rule) Follows
separated_definite {between} {Rule} divides =
    let repeats = further_repeat divides in
    made_definite (separated_made between Rule) (both_definite divides.one (each_leads repeats) (each_definite repeats))

pub separated_has : {X : Type 0} {between : Kind} {Rule : List Kind → X → Type 0} → HasText Rule → HasText (Separated between Rule)
separated_has has = record { tokens = has.tokens; tree = has.tree ∷ []; text = model.Separated.one has.text }

pub separated_starts : {X : Type 0} {between : Kind} {Rule : List Kind → X → Type 0} {First : Kind → Type 0} → Starts Rule First → Starts (Separated between Rule) First
separated_starts {between} {Rule} starts = made_starts (separated_made between Rule) (both_starts starts)

-- the last text, after which no further one stands
pub last_found : {X : Type 0} {between : Kind} {Rule : List Kind → X → Type 0} {Before Follows : List Kind → Type 0} {ts r : List Token} {x : X} {m : ℕ}
    → Divides between Rule Before Follows → Follows (kinds r) → Parses Rule Before ts x r m → Parses (Separated between Rule) Follows ts (x ∷ []) r (length r)
last_found {ts} {r} {x} divides follows one = found ts one.prefix r (x ∷ []) (separated_definite divides) one.cut (model.Separated.one one.text) follows

one_token : (kind : Kind) (l : List Kind) (x : Unit {0}) → IsTerminal kind l x → l ≡ kind ∷ []
one_token kind _ _ terminal = refl

-- a text, the token between and the others
pub further_found : {X : Type 0} {between : Kind} {Rule : List Kind → X → Type 0} {Before Follows : List Kind → Type 0} {ts r next s : List Token} {x : X} {ys : List X} {m n o : ℕ}
    → Divides between Rule Before Follows → Parses Rule Before ts x r m → Parses (IsTerminal between) Anything r tt next n
    → Parses (Separated between Rule) Follows next ys s o → Parses (Separated between Rule) Follows ts (x ∷ ys) s (length s)
further_found {between} {Rule} {ts} {r} {next} {s} {x} {ys} divides one token more =
    let inner : r ≡ (token.prefix ++ more.prefix) ++ s = token.cut ∙ ap (λ l. token.prefix ++ l) more.cut ∙ sym (append_assoc token.prefix more.prefix s) in
    let cut : ts ≡ (one.prefix ++ (token.prefix ++ more.prefix)) ++ s = one.cut ∙ ap (λ l. one.prefix ++ l) inner ∙ sym (append_assoc one.prefix (token.prefix ++ more.prefix) s) in
    let text : Separated between Rule (kinds one.prefix ++ (between ∷ kinds more.prefix)) (x ∷ ys) = model.Separated.more one.text more.text in
    let middle : kinds (token.prefix ++ more.prefix) ≡ between ∷ kinds more.prefix =
    map-append (λ t. t.kind) token.prefix more.prefix ∙ ap (λ l. l ++ kinds more.prefix) (one_token between (kinds token.prefix) tt token.text) in
    let whole : kinds (one.prefix ++ (token.prefix ++ more.prefix)) ≡ kinds one.prefix ++ (between ∷ kinds more.prefix) =
    map-append (λ t. t.kind) one.prefix (token.prefix ++ more.prefix) ∙ ap (λ l. kinds one.prefix ++ l) middle in
    found ts (one.prefix ++ (token.prefix ++ more.prefix)) s (x ∷ ys) (separated_definite divides) cut
    (subst (λ l. Separated between Rule l (x ∷ ys)) (sym whole) text) more.follows

-- a text, the token between and further texts
abbrev pub AndFurther : {X : Type 0} → Kind → (List Kind → X → Type 0) → List Kind → X × (Unit {0} × List X) → Type 0
AndFurther between Rule = Both Rule (Both (IsTerminal between) (Separated between Rule))

none_separated : {X : Type 0} {between : Kind} {Rule : List Kind → X → Type 0} {Follows : List Kind → Type 0} (ts p rest : List Kind) (xs : List X)
    → ((q after : List Kind) (x : X) → ts ≡ q ++ after → Rule q x → Follows after → ⊥)
    → ((q after : List Kind) (z : X × (Unit {0} × List X)) → ts ≡ q ++ after → AndFurther between Rule q z → Follows after → ⊥)
    → ts ≡ p ++ rest → Separated between Rule p xs → Follows rest → ⊥
none_separated ts _ rest _ alone none cut (model.Separated.one {a} {x} first) follows = alone a rest x cut first follows
none_separated {between} {Rule} ts _ rest _ alone none cut (model.Separated.more {a} {b} {x} {xs} first others) follows =
    let further : Both (IsTerminal between) (Separated between Rule) (between ∷ b) (tt, xs) = both terminal others in
    none (a ++ (between ∷ b)) rest (x, (tt, xs)) cut (both first further) follows

separated_begins : {X : Type 0} {between : Kind} {Rule : List Kind → X → Type 0} (p more l : List Kind) (xs : List X)
    → HasText Rule → Separated between Rule l xs → l ≡ p ++ more → IsPrefix (AndFurther between Rule) p
separated_begins {Rule} p more _ _ has (model.Separated.one {a} {x} first) equal =
    inside_both (both_has (terminal_has _) (separated_has has)) (record { more = more; tree = x; text = subst (λ l. Rule l x) equal first })
separated_begins {between} {Rule} p more _ _ has (model.Separated.more {a} {b} {x} {xs} first others) equal =
    let further : Both (IsTerminal between) (Separated between Rule) (between ∷ b) (tt, xs) = both terminal others in
    record { more = more; tree = (x, (tt, xs)); text = subst (λ l. AndFurther between Rule l (x, (tt, xs))) equal (both first further) }

rejoined_rest : {X : Type 0} {between : Kind} {Rule : List Kind → X → Type 0} (a l : List Kind) (x : X) (z : Unit {0} × List X)
    → Rule a x → Both (IsTerminal between) (Separated between Rule) l z → Separated between Rule (a ++ l) (x ∷ z.1)
rejoined_rest a _ x _ first (both terminal others) = model.Separated.more first others

rejoined : {X : Type 0} {between : Kind} {Rule : List Kind → X → Type 0} (l : List Kind) (z : X × (Unit {0} × List X)) → AndFurther between Rule l z → Separated between Rule l (z.0 ∷ z.1.1)
rejoined _ _ (both {a} {b} {x} {y} first others) = rejoined_rest a b x y first others

-- neither a text alone nor a text and further ones are there
separated_lacks : {X : Type 0} {between : Kind} {Rule : List Kind → X → Type 0} {Follows : List Kind → Type 0} {ts : List Token} {left : ℕ}
    → HasText Rule → ((q after : List Kind) (x : X) → kinds ts ≡ q ++ after → Rule q x → Follows after → ⊥)
    → Fails (AndFurther between Rule) Follows ts left → Fails (Separated between Rule) Follows ts left
separated_lacks {ts} has alone fails = record {
  none = λ p rest xs cut text follows. none_separated (kinds ts) p rest xs alone fails.none cut text follows;
  reach = record {
    prefix = fails.reach.prefix;
    rest = fails.reach.rest;
    cut = fails.reach.cut;
    count = fails.reach.count;
    begins = record {
      more = fails.reach.begins.more;
      tree = fails.reach.begins.tree.0 ∷ fails.reach.begins.tree.1.1;
      text = rejoined (fails.reach.prefix ++ fails.reach.begins.more) fails.reach.begins.tree fails.reach.begins.text;
    };
    furthest = λ p rest cut begins. fails.reach.furthest p rest cut (separated_begins p begins.more (p ++ begins.more) begins.tree has begins.text refl);
  };
}

further_leads : {X : Type 0} {between : Kind} {Rule : List Kind → X → Type 0} {Before Follows : List Kind → Type 0}
    → Divides between Rule Before Follows → Leads (Both (IsTerminal between) (Separated between Rule)) Follows Before
further_leads {between} {Before} divides = starts_lead (both_starts (terminal_starts between)) (λ t l is. subst (λ u. Before (u ∷ l)) (sym is) (divides.divider l))

-- the text that has to stand here is missing
pub text_missing : {X : Type 0} {between : Kind} {Rule : List Kind → X → Type 0} {Before Follows : List Kind → Type 0} {ts : List Token} {left : ℕ}
    → Divides between Rule Before Follows → HasText Rule → Fails Rule Before ts left → Fails (Separated between Rule) Follows ts left
text_missing divides has fails =
    separated_lacks has (λ q after x cut text follows. fails.none q after x cut text (divides.last after follows))
    (first_missing (both_has (terminal_has _) (separated_has has)) (further_leads divides) fails)

no_last : {X : Type 0} {between : Kind} {Rule : List Kind → X → Type 0} {Before Follows : List Kind → Type 0} {ts r next : List Token} {x : X} {m n : ℕ} (q after : List Kind) (y : X)
    → Divides between Rule Before Follows → Parses Rule Before ts x r m → Parses (IsTerminal between) Anything r tt next n
    → kinds ts ≡ q ++ after → Rule q y → Follows after → ⊥
no_last {between} {Follows} {r} {next} {x} q after y divides one token cut text follows =
    let same = divides.one.agrees (kinds one.prefix) q (kinds r) after x y one.text text one.follows (divides.last after follows) (sym (kinds_cut one) ∙ cut) in
    let begins : kinds r ≡ between ∷ kinds next = kinds_cut token ∙ ap (λ l. l ++ kinds next) (one_token between (kinds token.prefix) tt token.text) in
    divides.apart (kinds next) (subst Follows (sym same.0 ∙ begins) follows)

-- further texts are missing after the token between
pub further_missing : {X : Type 0} {between : Kind} {Rule : List Kind → X → Type 0} {Before Follows : List Kind → Type 0} {ts r next : List Token} {x : X} {m n left : ℕ}
    → Divides between Rule Before Follows → HasText Rule → Parses Rule Before ts x r m → Parses (IsTerminal between) Anything r tt next n
    → Fails (Separated between Rule) Follows next left → Fails (Separated between Rule) Follows ts left
further_missing {between} divides has one token fails =
    separated_lacks has (λ q after y cut text follows. no_last q after y divides one token cut text follows)
    (second_missing divides.one (further_leads divides) one (second_missing (terminal_definite between) anything_leads token fails))

-- after one text of several and the token between
pub separated_onward : {X : Type 0} {between : Kind} {Rule : List Kind → X → Type 0} {Before Follows : List Kind → Type 0} {ts rest r next : List Token} {xs : List X} {x : X} {m n : ℕ}
    → Divides between Rule Before Follows → HasText Rule → Onward (Separated between Rule) Follows ts xs rest → Parses Rule Before rest x r m → Parses (IsTerminal between) Anything r tt next n
    → Onward (Separated between Rule) Follows ts (xs ++ (x ∷ [])) next
separated_onward {x} divides has onward one token =
    onward_more x onward (λ ys s more. further_found divides one token more) (λ left fails. further_missing divides has one token fails)

token_length : (kind : Kind) (p : List Token) (x : Unit {0}) → IsTerminal kind (kinds p) x → length p ≡ 1
token_length kind p x text = sym (length-map p (λ t. t.kind)) ∙ ap length (one_token kind (kinds p) x text)

-- fewer tokens are left after the token between
pub further_shorter : {X : Type 0} {between : Kind} {Rule : List Kind → X → Type 0} {Before : List Kind → Type 0} {ts r next : List Token} {x : X} {m n : ℕ}
    → Parses Rule Before ts x r m → Parses (IsTerminal between) Anything r tt next n → length next < length ts
further_shorter {between} {ts} {r} {next} one token =
    omega (arith, ap length one.cut, length-append one.prefix r, ap length token.cut, length-append token.prefix next, token_length between token.prefix tt token.text)
