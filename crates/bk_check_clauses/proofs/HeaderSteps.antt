-- The headers of operations, one after another.
use Rattle.std.proofs.Common.{◌≡◌, ℕ, suc, ◌+◌, ◌<◌, List, length, get_or, drop, sym, ◌∙◌, ap, Bool, true, cond, arith}
use Rattle.std.specs.Prelude.{◌&&◌}
use Rattle.std.specs.Str.{bytes_eq}
use Rattle.bk_dev.specs.Development.{Head, Development}
use Rattle.bk_raw.specs.Trees.ComponentTree.{RawOperation}
use Rattle.bk_statics.specs.OperationFaults.{is_same_header, heads_as}
use Rattle.bk_scope.proofs.FaultSteps.{next}

-- whether a header is as it has to be
abbrev pub alike : Development → ℕ → Head → RawOperation → Bool
alike dev i h o = cond (bytes_eq h.name o.name.text) (is_same_header dev i h o) true

heads-next : (dev : Development) (heads : List Head) (o : RawOperation) (i : ℕ) (h : Head) (b every : Bool) → i < length heads → h ≡ get_or heads i h → b ≡ alike dev i h o → heads_as dev i (drop i heads) o ≡ every →
    (b && heads_as dev (i + 1) (drop (i + 1) heads) o) ≡ every
heads-next dev heads o i h b every l e k inv =
    let s : suc i ≡ i + 1 = omega arith in
    ap (λ c. c && heads_as dev (i + 1) (drop (i + 1) heads) o) k
    ∙ (sym (next (λ hs. heads_as dev i hs o) heads i h l e ∙ ap (λ n. alike dev i h o && heads_as dev n (drop (i + 1) heads) o) s) ∙ inv)

-- one that is
pub heads-passed : (dev : Development) (heads : List Head) (o : RawOperation) (i : ℕ) (h : Head) (b every : Bool) → i < length heads → h ≡ get_or heads i h → b ≡ alike dev i h o → b ≡ true → heads_as dev i (drop i heads) o ≡ every →
    heads_as dev (i + 1) (drop (i + 1) heads) o ≡ every
heads-passed dev heads o i h b every l e k t inv = sym (ap (λ c. c && heads_as dev (i + 1) (drop (i + 1) heads) o) t) ∙ heads-next dev heads o i h b every l e k inv
