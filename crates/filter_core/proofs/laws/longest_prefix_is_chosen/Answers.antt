use Rattle.filter_core.proofs.Fitting.{fits_longest, longest_fits, all_records}
use Rattle.size_fit.specs.Sizes.{base, limit_of}
use Rattle.filter_core.proofs.laws.longest_prefix_is_chosen.Goals as goal

pub returns : goal.returns
returns c = record {
  longest = λ config state records n le. (fits_longest (base config state) (limit_of config) records n le, longest_fits (base config state) (limit_of config) records n le);
  all = all_records;
}
