use Rattle.smap_link.specs.Paths.{bare}
use Rattle.smap_link.proofs.TableLemmas.{all_bare}
use Rattle.smap_link.proofs.table.ScriptTable.new.Goals as goal

pub returns-clause-value : goal.returns-clause-value
returns-clause-value c = record {
  of_names = c.in_ok-names.ensures.value;
  of_keys = tt;
  texts = c.in_ok-names.ensures.texts;
  of_bare = tt;
  are_bare = λ is. all_bare bare c.args.scripts.now (c.are_bare.ensures is);
}
