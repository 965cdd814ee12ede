-- What the proof uses of a development: the facts of its last level.
use Rattle.std.proofs.Common.{◌≡◌, ◌<◌, ℕ, List, [], length, refl, Bool, true, false}
use Rattle.bk_form.specs.Table.{IsWellFormed}
use Rattle.bk_gsl.specs.Substitution.{Substitution}
use Rattle.bk_gsl.specs.State.{among}
use Rattle.bk_gsl.specs.Typed.{Types}
use Rattle.bk_gsl.proofs.States.{clash}
use Rattle.bk_dev.specs.Development.{Development, level_at, body_at, inputs_of, last, int_max, IsRange}
use Rattle.bk_dev.specs.Facts.{names_own, names_joined, writes_own, StaysIn, IsSubOf, IsLawful}
use Rattle.bk_dev.specs.Layout.{locals, cell_variables}
use Rattle.bk_dev.proofs.Levels.{last_level, last_paired}
use Rattle.bk_dev.specs.B0.{IsB0Development}
use Rattle.bk_b0.specs.Cells.{IsKnown, IsCell, ValuesHaveKinds, ArraysHaveCells, ArraysAreTyped}
use Rattle.bk_b0.proofs.LevelCells.{constants-have, arrays-have, known, settable, local-cells, body-fact, inputs-there, outputs-there, locals-there, init-locals-there}
use Rattle.bk_b0.proofs.ArrayTypes.{arrays-typed}

-- a statement types, and what it names, writes and binds has values or cells
pub record IsPlaced (dev : Development) (s : Substitution) : Type 0 where
  pub scope : ℕ → Bool
  pub above : ℕ → Bool
  pub writable : ℕ → Bool
  pub types : Types dev.table s
  pub stays : StaysIn scope above writable s
  pub known : (n : ℕ) → scope n ≡ true → IsKnown dev n
  pub settable : (n : ℕ) → writable n ≡ true → IsCell dev n
  pub inner : (n : ℕ) → among (locals s) n ≡ true → IsCell dev n

pub record HasFacts (dev : Development) : Type 0 where
  pub range : IsRange (int_max dev)
  pub table : IsWellFormed dev.table
  pub sets : dev.sets ≡ dev.table.sets
  pub constants : ValuesHaveKinds dev dev.values
  pub arrays : ArraysHaveCells dev
  pub typed : ArraysAreTyped dev
  pub init : IsPlaced dev (level_at dev (last dev)).init
  pub bodies : (o : ℕ) → o < length dev.heads → IsPlaced dev (body_at dev (last dev) o).sub
  pub paired : length dev.heads ≡ length (level_at dev (last dev)).bodies
  pub inputs : (o : ℕ) → o < length dev.heads → (n : ℕ) → among (inputs_of dev o) n ≡ true → among (cell_variables dev) n ≡ true
  pub outputs : (o : ℕ) → o < length dev.heads → (n : ℕ) → among (body_at dev (last dev) o).outputs n ≡ true → IsCell dev n

none-among : {P : Type 0} (n : ℕ) → among [] n ≡ true → P
none-among n h = clash false h refl

module _ (dev : Development) (f : IsLawful dev) (b : IsB0Development dev) where
  placed : (inputs outputs : List ℕ) (s : Substitution) → IsSubOf dev (last dev) inputs outputs s → ((n : ℕ) → among inputs n ≡ true → among (cell_variables dev) n ≡ true) → ((n : ℕ) → among outputs n ≡ true → IsCell dev n) →
      ((n : ℕ) → among (locals s) n ≡ true → among (cell_variables dev) n ≡ true) → IsPlaced dev s
  placed inputs outputs s fact ins outs there = record {
    scope = names_own dev (last dev) inputs outputs;
    above = names_joined dev (last dev);
    writable = writes_own dev (last dev) outputs;
    types = fact.types;
    stays = fact.stays;
    known = known dev f b.complete inputs outputs ins outs;
    settable = λ n h. (settable dev f b.complete inputs outputs ins outs n h).0;
    inner = local-cells dev f b.complete inputs outputs ins outs s fact there;
  }

  pub lawful_facts : HasFacts dev
  lawful_facts = record {
    range = f.range;
    table = f.table;
    sets = f.sets;
    constants = constants-have dev f;
    arrays = arrays-have dev f;
    typed = arrays-typed dev f;
    init = placed [] [] (level_at dev (last dev)).init (last_level dev f).init (λ n h. none-among n h) (λ n h. none-among n h) (init-locals-there dev f);
    bodies = λ o low. placed (inputs_of dev o) (body_at dev (last dev) o).outputs (body_at dev (last dev) o).sub (body-fact dev f o low).sub (inputs-there dev f o low) (outputs-there dev f o low) (locals-there dev f o low);
    paired = last_paired dev f;
    inputs = inputs-there dev f;
    outputs = outputs-there dev f;
  }
