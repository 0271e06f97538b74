-- Blanks and comments before a token.
use Rattle.std.specs.Prelude.{◌≡◌, ◌+◌, ◌≤◌, ◌==◌, not, ℕ, List, [], length}
use Rattle.std.specs.List.{prefix_len}
use Rattle.prism_syntax.specs.Tokens.{Reads}

-- how many bytes stand before the first line feed of a text
abbrev pub line_len : List ℕ → ℕ
line_len text = prefix_len (λ c. not (c == 10)) text

-- blanks and comments alone stand before the rest
pub record Passes (text rest : List ℕ) : Type 0 where
  pub shorter : length rest ≤ length text
  pub reads : (at end : ℕ) → at + length text ≡ end + length rest → Reads at text [] end rest
