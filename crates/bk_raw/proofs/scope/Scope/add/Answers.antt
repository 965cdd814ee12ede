use Rattle.std.proofs.Common.{◌≡◌, ◌++◌, ◌∷◌, [], Bool, true, false, None, sym, ap, ◌∙◌, true≢false, rules}
use Rattle.std.specs.Prelude.{Result, Ok, Err, OnOk, is_err}
use Rattle.std.specs.Map.{lookup}
use Rattle.std.specs.Str.{bytes_eq}
use Rattle.bk_raw.specs.Meaning.ScopeReading.{last_from}
use Rattle.bk_raw.proofs.Numbered.{numbers_inserted}
use Rattle.bk_raw.proofs.scope.Scope.add.Goals as goal

on_ok : {T E : Type 0} {P : Type 0} (r : Result T E) → is_err r ≡ false → OnOk r P → P
on_ok (Ok x) e h = h
on_ok (Err x) e h = absurd (true≢false e)

pub invariant_of-self-else-is_err : goal.invariant_of-self-else-is_err
invariant_of-self-else-is_err c = λ text.
    ap (lookup (λ k. bytes_eq text k.items)) (on_ok c.insert.result (sym c.is_err.ensures.value ∙ c.if-is_err.false) c.insert.ensures.entries)
    ∙ (numbers_inserted (λ k. k.items) text c.in_ok-text.text c.args.variable c.self.inside.numbers.entries c.self.inside.entries.items (c.self.invariant text)
    ∙ ap (λ es. last_from None es text) (ap (λ t. c.self.inside.entries.items ++ (t, c.args.variable) ∷ []) (c.in_ok-text.ensures.items ∙ c.as_bytes.ensures.value) ∙ sym c.in_ok-push.ensures.items))
