-- Calls that are done.
use Rattle.std.proofs.Common.{◌≡◌, ℕ, suc, ◌+◌, ℤ, List, sym, subst, arith}
use Rattle.bk_code.specs.declared.image.Image.{Image}
use Rattle.bk_code.specs.Step.{Config}
use Rattle.bk_code.specs.Run.{End, Done, Trapped, OutOfFuel, ReturnsAfter, Ends}
use Rattle.bk_code.proofs.Runs.{one_end, stays_done, stays_trapped}
use Rattle.bk_sim.specs.Follows.{IsGood, GoesWell}

-- a call that returns goes well with every fuel where P holds of the cells that it leaves
pub done-well : (image : Image) (start : Config) (P : List ℤ → Type 0) (n : ℕ) (d : Config) → ReturnsAfter image n start d → P d.cells → (fuel : ℕ) → GoesWell image fuel start P
done-well image start P n d r p fuel end e h = at end h
  where
    enough : Ends image (fuel + n) start (Done n) d
    enough = (omega (arith), r)

    at : (end : End) → Ends image fuel start end e → IsGood image fuel start P end e
    at (Done m) h =
        let same = one_end image (fuel + n) start (Done m) (Done n) e d (stays_done image fuel (fuel + n) m start e (omega (arith)) h) enough in
        subst (λ (c : Config). P c.cells) (sym same.1) p
    at (Trapped kind place m) h =
        let same = one_end image (fuel + n) start (Trapped kind place m) (Done n) e d (stays_trapped image fuel (fuel + n) kind place m start e (omega (arith)) h) enough in
        let k : Trapped kind place m ≡ Done n = same.0 in
        cc
    at OutOfFuel h = (suc (fuel + n), n, d, omega (arith), (omega (arith), r))
