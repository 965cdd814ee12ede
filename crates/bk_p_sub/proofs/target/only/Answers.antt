use Rattle.std.proofs.Common.{◌≡◌, ◌≢◌, ◌++◌, List, [], ◌∷◌, length, Option, Some, None, IsSome, MatchOption, true, false, ap, arith}
use Rattle.std.specs.Prelude.{option_to_list}
use Rattle.std.proofs.lemmas.List.{length-append}
use Rattle.bk_raw.specs.declared.term.RawName.{RawName}
use Rattle.bk_p_sub.proofs.target.only.Goals as goal

false_true : false ≡ true → ⊥
false_true e = cc

-- what is taken from the end of a list of one is all of it
taken : (xs front : List RawName) (last : Option RawName) → xs ≡ front ++ option_to_list last → IsSome last → length xs ≡ 1 → MatchOption last (length xs ≢ 1) (λ x. xs ≡ x ∷ [])
taken xs front None e some l = absurd (false_true some)
taken xs [] (Some x) e some l = e
taken xs (y ∷ ys) (Some x) e some l = absurd (omega (arith, l, ap length e, length-append ys (x ∷ [])))

pub returns : goal.returns
returns c = taken c.args.names.items c.pop.new.self.items c.pop.result c.pop.ensures.items (c.pop.ensures.variant.1 (omega (arith, c.if-len-ne1.false, c.len.ensures))) (omega (arith, c.if-len-ne1.false, c.len.ensures, c.args.names.ok.0))
