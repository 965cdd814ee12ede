use Rattle.std.proofs.Common.{◌≡◌, ◌-◌, length, take}
use Rattle.bk_raw.specs.Meaning.Names.{found}
use Rattle.bk_elab_terms.specs.Sights.{names_of, outer_names}
use Rattle.bk_elab_terms.proofs.Sighted.{before}
use Rattle.bk_elab_terms.proofs.sight.Reader.find.Given as goal

-- none of the innermost bound names so far is the name
abbrev pub invariant-loop-number : goal.invariant-loop-number
invariant-loop-number l = found l.number (before (take (length l.self.locals.items - l.number) l.self.locals.items) (outer_names l.self)) l.text ≡ found 0 (names_of l.self) l.text
