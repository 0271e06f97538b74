-- The tables of the commands.
use Rattle.std.proofs.Common.{refl}
use Rattle.clap.proofs.OnLiterals.{clap_on_literals}
use Rattle.smc_settings.specs.Settings.{check_table, trace_table, expand_table, make_table}
use Rattle.smc_settings.specs.Parse.{IsTable}

-- each names the options of one command
pub check_is_table : IsTable check_table
unfolding clap_on_literals
check_is_table = record { names = refl; free = refl; builds = refl }

pub trace_is_table : IsTable trace_table
unfolding clap_on_literals
trace_is_table = record { names = refl; free = refl; builds = refl }

pub expand_is_table : IsTable expand_table
unfolding clap_on_literals
expand_is_table = record { names = refl; free = refl; builds = refl }

pub make_is_table : IsTable make_table
unfolding clap_on_literals
make_is_table = record { names = refl; free = refl; builds = refl }
