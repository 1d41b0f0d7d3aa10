use Rattle.laws_headline.proofs.NeededLemmas.{alone-refused, command-refused, earlier-alone}
use Rattle.laws_headline.proofs.NeededLemmas.{listed-left_out, no-address, other-refused}
use Rattle.laws_headline.proofs.laws.headline_premises_are_needed.Goals as goal

pub returns : goal.returns
returns c = record {
  same_table = other-refused;
  no_command = command-refused;
  as_indexed = earlier-alone;
  listed_load = listed-left_out;
  alone = alone-refused;
  addresses = no-address;
}
