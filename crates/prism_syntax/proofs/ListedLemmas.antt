-- Each symbol and each reserved word stands in its table.
use Rattle.std.proofs.Common.{◌≡◌, ℕ, true, false, List, length, Option, Some, refl, sym, ap, subst, ◌∙◌, codes, bytes_eq}
use Rattle.std.specs.Map.{lookup}
use Rattle.prism_syntax.specs.declared.tokens.Kind.{Kind}
use Rattle.prism_syntax.specs.declared.tokens.Kind.TheVariants as k
use Rattle.prism_syntax.specs.Spelling.{spelling_of, symbolic, is_symbol}
use Rattle.prism_syntax.specs.SpellingTables.{one_letter_words, four_letter_words, five_letter_words, middle_words, short_words, long_words, one_byte_symbols, two_byte_symbols, three_byte_symbols, words_of, symbols_of, spelled_by}

-- the kind that is spelled so
abbrev pub kind_spelled : List ℕ → Option Kind
kind_spelled bytes = lookup (bytes_eq bytes) (spelled_by (symbolic (Some bytes)) (length bytes))

-- one row of the table
row : {bytes spelling : List ℕ} {kind : Kind} → kind_spelled spelling ≡ Some kind → Some spelling ≡ Some bytes → kind_spelled bytes ≡ Some kind
row {bytes} {spelling} {kind} found same = let equal : spelling ≡ bytes = cc in subst (λ b. kind_spelled b ≡ Some kind) equal found

-- a kind is found by its spelling
pub listed : (kind : Kind) (bytes : List ℕ) → spelling_of kind ≡ Some bytes → kind_spelled bytes ≡ Some kind
unfolding spelling_of one_letter_words four_letter_words five_letter_words middle_words short_words long_words one_byte_symbols two_byte_symbols three_byte_symbols
listed k.Semicolon bytes spelled = row {spelling = codes ";"} refl spelled
listed k.Colon bytes spelled = row {spelling = codes ":"} refl spelled
listed k.Comma bytes spelled = row {spelling = codes ","} refl spelled
listed k.Dots bytes spelled = row {spelling = codes ".."} refl spelled
listed k.OpenBracket bytes spelled = row {spelling = codes "["} refl spelled
listed k.CloseBracket bytes spelled = row {spelling = codes "]"} refl spelled
listed k.Open bytes spelled = row {spelling = codes "("} refl spelled
listed k.Close bytes spelled = row {spelling = codes ")"} refl spelled
listed k.Prime bytes spelled = row {spelling = codes "'"} refl spelled
listed k.Equal bytes spelled = row {spelling = codes "="} refl spelled
listed k.NotEqual bytes spelled = row {spelling = codes "!="} refl spelled
listed k.Less bytes spelled = row {spelling = codes "<"} refl spelled
listed k.LessEqual bytes spelled = row {spelling = codes "<="} refl spelled
listed k.Greater bytes spelled = row {spelling = codes ">"} refl spelled
listed k.GreaterEqual bytes spelled = row {spelling = codes ">="} refl spelled
listed k.Plus bytes spelled = row {spelling = codes "+"} refl spelled
listed k.Dash bytes spelled = row {spelling = codes "-"} refl spelled
listed k.Star bytes spelled = row {spelling = codes "*"} refl spelled
listed k.Slash bytes spelled = row {spelling = codes "/"} refl spelled
listed k.Ampersand bytes spelled = row {spelling = codes "&"} refl spelled
listed k.Bar bytes spelled = row {spelling = codes "|"} refl spelled
listed k.Bang bytes spelled = row {spelling = codes "!"} refl spelled
listed k.Query bytes spelled = row {spelling = codes "?"} refl spelled
listed k.Arrow bytes spelled = row {spelling = codes "->"} refl spelled
listed k.Implies bytes spelled = row {spelling = codes "=>"} refl spelled
listed k.Equivalent bytes spelled = row {spelling = codes "<=>"} refl spelled
listed k.A bytes spelled = row {spelling = codes "A"} refl spelled
listed k.Bool bytes spelled = row {spelling = codes "bool"} refl spelled
listed k.Clock bytes spelled = row {spelling = codes "clock"} refl spelled
listed k.Const bytes spelled = row {spelling = codes "const"} refl spelled
listed k.Ctmc bytes spelled = row {spelling = codes "ctmc"} refl spelled
listed k.C bytes spelled = row {spelling = codes "C"} refl spelled
listed k.Double bytes spelled = row {spelling = codes "double"} refl spelled
listed k.Dtmc bytes spelled = row {spelling = codes "dtmc"} refl spelled
listed k.E bytes spelled = row {spelling = codes "E"} refl spelled
listed k.EndInit bytes spelled = row {spelling = codes "endinit"} refl spelled
listed k.EndInvariant bytes spelled = row {spelling = codes "endinvariant"} refl spelled
listed k.EndModule bytes spelled = row {spelling = codes "endmodule"} refl spelled
listed k.EndObservables bytes spelled = row {spelling = codes "endobservables"} refl spelled
listed k.EndRewards bytes spelled = row {spelling = codes "endrewards"} refl spelled
listed k.EndSystem bytes spelled = row {spelling = codes "endsystem"} refl spelled
listed k.False bytes spelled = row {spelling = codes "false"} refl spelled
listed k.Filter bytes spelled = row {spelling = codes "filter"} refl spelled
listed k.Formula bytes spelled = row {spelling = codes "formula"} refl spelled
listed k.Func bytes spelled = row {spelling = codes "func"} refl spelled
listed k.F bytes spelled = row {spelling = codes "F"} refl spelled
listed k.Global bytes spelled = row {spelling = codes "global"} refl spelled
listed k.G bytes spelled = row {spelling = codes "G"} refl spelled
listed k.I bytes spelled = row {spelling = codes "I"} refl spelled
listed k.Init bytes spelled = row {spelling = codes "init"} refl spelled
listed k.Int bytes spelled = row {spelling = codes "int"} refl spelled
listed k.Invariant bytes spelled = row {spelling = codes "invariant"} refl spelled
listed k.Label bytes spelled = row {spelling = codes "label"} refl spelled
listed k.Max bytes spelled = row {spelling = codes "max"} refl spelled
listed k.Mdp bytes spelled = row {spelling = codes "mdp"} refl spelled
listed k.Min bytes spelled = row {spelling = codes "min"} refl spelled
listed k.Module bytes spelled = row {spelling = codes "module"} refl spelled
listed k.Nondeterministic bytes spelled = row {spelling = codes "nondeterministic"} refl spelled
listed k.Observable bytes spelled = row {spelling = codes "observable"} refl spelled
listed k.Observables bytes spelled = row {spelling = codes "observables"} refl spelled
listed k.Of bytes spelled = row {spelling = codes "of"} refl spelled
listed k.P bytes spelled = row {spelling = codes "P"} refl spelled
listed k.Pmax bytes spelled = row {spelling = codes "Pmax"} refl spelled
listed k.Pmin bytes spelled = row {spelling = codes "Pmin"} refl spelled
listed k.Pomdp bytes spelled = row {spelling = codes "pomdp"} refl spelled
listed k.Popta bytes spelled = row {spelling = codes "popta"} refl spelled
listed k.Prob bytes spelled = row {spelling = codes "prob"} refl spelled
listed k.Probabilistic bytes spelled = row {spelling = codes "probabilistic"} refl spelled
listed k.Pta bytes spelled = row {spelling = codes "pta"} refl spelled
listed k.R bytes spelled = row {spelling = codes "R"} refl spelled
listed k.Rate bytes spelled = row {spelling = codes "rate"} refl spelled
listed k.Rewards bytes spelled = row {spelling = codes "rewards"} refl spelled
listed k.Rmax bytes spelled = row {spelling = codes "Rmax"} refl spelled
listed k.Rmin bytes spelled = row {spelling = codes "Rmin"} refl spelled
listed k.S bytes spelled = row {spelling = codes "S"} refl spelled
listed k.Stochastic bytes spelled = row {spelling = codes "stochastic"} refl spelled
listed k.System bytes spelled = row {spelling = codes "system"} refl spelled
listed k.True bytes spelled = row {spelling = codes "true"} refl spelled
listed k.U bytes spelled = row {spelling = codes "U"} refl spelled
listed k.W bytes spelled = row {spelling = codes "W"} refl spelled
listed k.X bytes spelled = row {spelling = codes "X"} refl spelled
listed (k.Name text) bytes spelled = absurd (cc)
listed (k.Quoted text) bytes spelled = absurd (cc)
listed (k.Whole value) bytes spelled = absurd (cc)
listed (k.Real value) bytes spelled = absurd (cc)

-- no two kinds are spelled alike
pub one_spelled : (kind other : Kind) (bytes : List ℕ) → spelling_of kind ≡ Some bytes → spelling_of other ≡ Some bytes → kind ≡ other
one_spelled kind other bytes first second =
    let same : Some kind ≡ Some other = sym (listed kind bytes first) ∙ listed other bytes second in
    cc

-- a reserved word is found among those of its length
pub listed_word : (kind : Kind) (bytes : List ℕ) → is_symbol kind ≡ false → spelling_of kind ≡ Some bytes → lookup (bytes_eq bytes) (words_of (length bytes)) ≡ Some kind
listed_word kind bytes is_false spelled =
    subst (λ symbol. lookup (bytes_eq bytes) (spelled_by symbol (length bytes)) ≡ Some kind) (sym (ap symbolic spelled) ∙ is_false) (listed kind bytes spelled)

-- and a symbol among those of its length
pub listed_symbol : (kind : Kind) (bytes : List ℕ) → is_symbol kind ≡ true → spelling_of kind ≡ Some bytes → lookup (bytes_eq bytes) (symbols_of (length bytes)) ≡ Some kind
listed_symbol kind bytes is_true spelled =
    subst (λ symbol. lookup (bytes_eq bytes) (spelled_by symbol (length bytes)) ≡ Some kind) (sym (ap symbolic spelled) ∙ is_true) (listed kind bytes spelled)
