-- Blanks and comments are passed over as they are read.
use Rattle.std.proofs.Common.{◌≡◌, ℕ, ◌+◌, ◌-◌, ◌≤◌, Bool, true, false, not, ◌==◌, List, [], ◌∷◌, ◌++◌, length, get_or, take, drop, refl, sym, ◌∙◌, ap, subst, subst₂, arith, length-append, take-append-drop, eqb-true}
use lib.Seq.{length-take-le}
use Rattle.std.proofs.Math.Seq.{take-length}
use Rattle.std.proofs.lemmas.List.Sums.{prefix_len-le-length}
use Rattle.prism_syntax.specs.declared.tokens.Token.{Token}
use Rattle.prism_syntax.specs.Tokens.{is_blank, is_one_line, EndsLine, BeginsNoComment, Reads, done, blank, comment}
use Rattle.prism_syntax.specs.Tokens as read
use Rattle.prism_lexer.specs.Blanks.{line_len, Passes}
use Rattle.prism_lexer.proofs.RunLemmas.{Stops, run_passes, run_stops}

-- a reading goes on with another one
pub reads_more : (at mid end : ℕ) (text rest last : List ℕ) (ts us : List Token) → Reads at text ts mid rest → Reads mid rest us end last → Reads at text (ts ++ us) end last
reads_more _ _ end _ _ last _ us (read.done at text) more = more
reads_more _ _ end _ _ last _ us (read.blank at c text tokens mid rest is first) more =
    read.blank at c text (tokens ++ us) end last is (reads_more (at + 1) mid end text rest last tokens us first more)
reads_more _ _ end _ _ last _ us (read.comment at line text tokens mid rest one ends first) more =
    read.comment at line text (tokens ++ us) end last one ends (reads_more (at + (2 + length line)) mid end text rest last tokens us first more)
reads_more _ _ end _ _ last _ us (read.token at text bytes kind after tokens mid rest clear is first) more =
    read.token at text bytes kind after (tokens ++ us) end last clear is (reads_more (at + length bytes) mid end after rest last tokens us first more)

-- a reading of nothing, at a place that is the same
reads_nothing : (at end : ℕ) (text : List ℕ) → at ≡ end → Reads at text [] end text
reads_nothing at end text same = subst (λ e. Reads at text [] e text) same (read.done at text)

pub passes_nothing : (text : List ℕ) → Passes text text
passes_nothing text = record { shorter = omega arith; reads = λ at end same. reads_nothing at end text (omega arith) }

pub passes_more : (text rest last : List ℕ) → Passes text rest → Passes rest last → Passes text last
passes_more text rest last first more = record {
  shorter = omega (arith, first.shorter, more.shorter);
  reads = λ at end same.
      let mid : ℕ = at + (length text - length rest) in
      reads_more at mid end text rest last [] [] (first.reads at mid (omega (arith, first.shorter))) (more.reads mid end (omega (arith, first.shorter, same)));
}

pub passes_blank : (c : ℕ) (rest : List ℕ) → is_blank c ≡ true → Passes (c ∷ rest) rest
passes_blank c rest is = record {
  shorter = omega arith;
  reads = λ at end same. read.blank at c rest [] end rest is (reads_nothing (at + 1) end rest (omega arith));
}

-- what follows a line ends it
line_ends : (text : List ℕ) → Stops (λ c. not (c == 10)) text → EndsLine text
line_ends [] stops = tt
line_ends (c ∷ cs) stops = eqb-true c 10 (not_false (c == 10) stops)
  where
    not_false : (b : Bool) → not b ≡ false → b ≡ true
    not_false true h = refl
    not_false false h = absurd (cc)

pub passes_comment : (text : List ℕ) → Passes (47 ∷ (47 ∷ text)) (drop (line_len text) text)
passes_comment text =
    let n : ℕ = line_len text in
    let line : List ℕ = take n text in
    let rest : List ℕ = drop n text in
    let split : line ++ rest ≡ text = take-append-drop n text in
    let size : length line ≡ n = length-take-le n text (prefix_len-le-length _ text) in
    let whole : length text ≡ length line + length rest = ap length (sym split) ∙ length-append line rest in
    record {
      shorter = omega (arith, whole);
      reads = λ at end same.
          subst (λ t. Reads at (47 ∷ (47 ∷ t)) [] end rest) split
          (read.comment at line rest [] end rest (run_passes (λ c. not (c == 10)) text) (line_ends rest (run_stops (λ c. not (c == 10)) text))
          (reads_nothing (at + (2 + length line)) end rest (omega (arith, whole, same))));
    }

-- what follows the first element of a list, or the first two
after_one : (c : ℕ) (cs : List ℕ) → take (length (c ∷ cs) - 1) (drop 1 (c ∷ cs)) ≡ cs
after_one c cs = let size : length (c ∷ cs) - 1 ≡ length cs = omega arith in ap (λ n. take n cs) size ∙ take-length cs

after_two : (c d : ℕ) (cs : List ℕ) → take (length (c ∷ (d ∷ cs)) - 2) (drop 2 (c ∷ (d ∷ cs))) ≡ cs
after_two c d cs = let size : length (c ∷ (d ∷ cs)) - 2 ≡ length cs = omega arith in ap (λ n. take n cs) size ∙ take-length cs

-- a text whose first byte is a blank
pub passes_first : (text : List ℕ) → 1 ≤ length text → is_blank (get_or text 0 0) ≡ true → Passes text (take (length text - 1) (drop 1 text))
passes_first [] some is = absurd (omega (arith, some))
passes_first (c ∷ cs) some is = subst (Passes (c ∷ cs)) (sym (after_one c cs)) (passes_blank c cs is)

-- a text that begins with `//`
pub passes_line : (text rest : List ℕ) (n : ℕ) → 2 ≤ length text → get_or text 0 0 ≡ 47 → get_or text 1 0 ≡ 47
    → n ≡ line_len (take (length text - 2) (drop 2 text)) → rest ≡ drop n (take (length text - 2) (drop 2 text)) → Passes text rest
passes_line [] rest n some first second size is = absurd (omega (arith, some))
passes_line (c ∷ []) rest n some first second size is = absurd (omega (arith, some))
passes_line (c ∷ (d ∷ cs)) rest n some first second size is =
    let whole : rest ≡ drop (line_len cs) cs = is ∙ (λ i. drop ((size ∙ ap line_len (after_two c d cs)) i) (after_two c d cs i)) in
    subst₂ Passes (λ i. sym first i ∷ (sym second i ∷ cs)) (sym whole) (passes_comment cs)
