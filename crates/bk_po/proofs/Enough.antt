-- The boxes of all levels, with what is met defined or fitting, are what the machine's keeping and the levels' carrying ask.
use Rattle.std.proofs.Common.{◌<◌, suc, length, sym, subst}
use Rattle.bk_form.specs.Search.{Finder, IsSearch}
use Rattle.bk_dev.specs.Development.{Development}
use Rattle.bk_dev.specs.Facts.{IsLawful, IsFlatDevelopment, OnlyLastIsImplementation}
use Rattle.bk_dev.specs.Claims.{KeepsFlat}
use Rattle.bk_po.specs.Levels.{BoxesHold, AllClean}
use Rattle.bk_po.specs.Laws.{BoxesCarry, EveryLevelIsCarried}
use Rattle.bk_dev.specs.Flattened.{flattened}
use Rattle.bk_dev.proofs.FlatLevels.{flattened_lawful}
use Rattle.bk_dev.proofs.FlatSame.{levels-many}
use Rattle.bk_po.proofs.Chain.{machine-init, machine-operation, each-carries}

module _ (find : Finder) (law : IsSearch find) (dev : Development) (f : IsLawful dev) (only : OnlyLastIsImplementation dev) (flat : IsFlatDevelopment dev) (boxes : BoxesHold find dev) (clean : AllClean find dev) where
  keeps : KeepsFlat find dev
  keeps = record {
    init = λ e t h. let m = machine-init find law dev f only flat boxes e t h in record { ends = m.0; clean = clean.inits 0 f.some_level e t h; results = m.1 };
    conditions = clean.conditions;
    operations = λ o l e s c. let m = machine-operation find law dev f only flat boxes o l e s c in record { ends = m.0; clean = clean.machine o l e s c; results = m.1 };
  }

pub boxes_carry : BoxesCarry
boxes_carry find law dev c boxes clean = record {
  keeps = keeps find law dev c.lawful c.only_last c.flat boxes clean;
  carries = each-carries find law dev c.lawful c.only_last c.flat boxes clean;
}

pub every_level_is_carried : EveryLevelIsCarried
every_level_is_carried find law dev d boxes clean =
    let w = boxes_carry find law (flattened dev) (record {
      lawful = flattened_lawful.every dev d;
      only_last = flattened_lawful.only_last dev d.only_last;
      flat = flattened_lawful.flat dev;
    }) boxes clean in
    (w.keeps, λ j h. w.carries j (subst (λ n. suc j < n) (sym (levels-many (length dev.table.variables) dev.levels)) h))
