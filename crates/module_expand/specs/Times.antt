-- How often a name is declared as what.
use Rattle.std.specs.Prelude.{◌≡◌, ℕ, ◌+◌, ◌-◌, ◌^◌, List, Option, Bool, min, cond, count_by, bytes_eq, find, nat_lt, unwrap_or}
use Rattle.std.specs.Option.{option_map}
use Rattle.prism_names.specs.First.{Name}
use Rattle.module_expand.specs.declared.declarations.Kind.{Kind}
use Rattle.module_expand.specs.declared.declarations.Kind.TheVariants as kind
use Rattle.module_expand.specs.declared.repeated.Times.{Times}
use Rattle.module_expand.specs.Duplicates.{Declaration, is_same}

-- how often as this
abbrev pub times : Kind → Times → ℕ
times kind.Value t = t.values
times kind.Module t = t.modules
times kind.Label t = t.labels

-- not at all
abbrev pub never : Times
never = record { values = 0; modules = 0; labels = 0 }

-- so often more as this, as far as a number of 64 bits goes
abbrev pub more_times : Kind → ℕ → Times → Times
more_times kind.Value more t = record t { values = min (t.values + more) (2 ^ 64 - 1) }
more_times kind.Module more t = record t { modules = min (t.modules + more) (2 ^ 64 - 1) }
more_times kind.Label more t = record t { labels = min (t.labels + more) (2 ^ 64 - 1) }

-- a table of how often names are declared as what
abbrev pub Counts : Type 0
Counts = Name → Option Times

-- a declaration was counted more than once
abbrev pub is_counted_twice : Counts → Declaration → Bool
is_counted_twice counts d = nat_lt 1 (times d.0 (unwrap_or (counts d.1) never))

-- the name of the first of these declarations that was counted more than once
abbrev pub first_twice : Counts → List Declaration → Option Name
first_twice counts all = option_map (λ d. d.1) (find (is_counted_twice counts) all)

-- a table counts a declaration so often beside what another one counts; twice and more are the same
abbrev pub AddsTimes : (old new : Counts) → Declaration → ℕ → Type 0
AddsTimes old new d more = (k : Kind) (n : Name) → min 2 (times k (unwrap_or (new n) never))
    ≡ min 2 (times k (unwrap_or (old n) never) + cond (is_same (k, n) d) more 0)

-- a table counts these declarations beside what another one counts; twice and more are the same
abbrev pub Adds : (old new : Counts) → List Declaration → Type 0
Adds old new all = (k : Kind) (n : Name) → min 2 (times k (unwrap_or (new n) never))
    ≡ min 2 (times k (unwrap_or (old n) never) + count_by (is_same (k, n)) all)

-- a table tells how often each name stands among these
abbrev pub AreCounted : List Name → (Name → Option ℕ) → Type 0
AreCounted names counts = (n : Name) → unwrap_or (counts n) 0 ≡ count_by (λ other. bytes_eq other n) names
