-- A component, or the place of fault, from a header and clauses that are read on.
use Rattle.std.specs.Prelude.{◌≡◌, ℕ, ◌+◌, ◌<◌, ◌≤◌, List, [], ◌∷◌, ◌++◌, length, refl}
use Rattle.std.proofs.Common.{inr, arith, sym, ◌∙◌, ap, subst, append_assoc, append-nil}
use Rattle.bk_form.specs.declared.token.Token.{Token}
use Rattle.bk_form.specs.declared.token.TokenKind.TheVariants.{Word}
use Rattle.bk_ops.specs.declared.word.TheConstants.{END}
use Rattle.bk_raw.specs.Grammar.Pieces.{Absent, JustWord, ◌⌢◌, InRow}
use Rattle.bk_raw.specs.Trees.ComponentTree.{RawComponent}
use Rattle.bk_raw.specs.Grammar.ComponentSpelling.{Clause, Header, OpensComponent, SpellsComponent}
use Rattle.bk_raw.specs.Errors.Places.{AreReadOn, IsComponentFault, IsLongestWhole, IsWholeComponent}
use Rattle.bk_raw.proofs.ComponentOne.{Closes, IsClosed, header-cut, row-cut}
use Rattle.bk_raw.proofs.Patterns.{first, last}
use Rattle.bk_raw.proofs.Places.{read-shorter, read-made, reading-tells-place, place-none}
use Rattle.bk_raw.proofs.Shapes.{regrouped}
use Rattle.bk_p_sub.specs.Found.{Ahead, NotAhead}

-- ---- open or closed
end_closes : Closes (JustWord END)
end_closes ts h = let f = first (Word END) (λ us. us ≡ []) ts (last (Word END) ts h) in subst IsClosed (sym f.is) f.same

absent_closes : Closes Absent
absent_closes ts h = subst IsClosed (sym h) tt

no_end_in_none : (ts : List Token) → Absent ts → JustWord END ts → ⊥
no_end_in_none ts h k =
    let e : [] ≡ k.0 ∷ [] = sym h ∙ k.1 in
    cc

-- what is open is no whole component
pub open_is_not_whole : (tokens : List Token) (c d : RawComponent) → OpensComponent c tokens → SpellsComponent d tokens → ⊥
open_is_not_whole tokens c d o s =
    let w = o.written in
    let open_row : (Header c ⌢ (InRow Clause c.clauses ⌢ Absent)) tokens = (w.0, w.1, w.2, w.3, (w.1, [], sym (append-nil w.1), w.4, refl)) in
    let whole_row : (Header d ⌢ (InRow Clause d.clauses ⌢ JustWord END)) tokens = regrouped (Header d) (InRow Clause d.clauses) (JustWord END) tokens s.written in
    let b = (header-cut c d (InRow Clause c.clauses ⌢ Absent) (InRow Clause d.clauses ⌢ JustWord END) tokens open_row whole_row).behind in
    let r = (row-cut c.clauses d.clauses Absent (JustWord END) b.0 absent_closes end_closes b.1 b.2).1 in
    no_end_in_none r.0 r.1 r.2

-- ---- a component
pub spelled_whole : (c : RawComponent) (tokens header behind rest ended : List Token) → tokens ≡ header ++ behind → Header c header → AreReadOn c.kind [] c.clauses behind rest → Ahead (Word END) rest ended → ended ≡ [] → SpellsComponent c tokens
spelled_whole c tokens header behind rest ended e h r a n =
    let s = read-shorter c.kind [] c.clauses behind rest r in
    let last_one : rest ≡ a.0 ∷ [] = a.1 ∙ ap (λ ts. a.0 ∷ ts) n in
    record {
      written = (header ++ s.0, rest, e ∙ ap (λ ts. header ++ ts) s.1 ∙ sym (append_assoc header s.0 rest), (header, s.0, refl, h, s.2), (a.0, last_one, a.2));
      made = read-made c.kind [] c.clauses behind rest r;
    }

-- ---- a place of fault
none_before : (tokens : List Token) (place : ℕ) → IsLongestWhole IsWholeComponent tokens place → place < length tokens → (d : RawComponent) → SpellsComponent d tokens → ⊥
none_before tokens place w l d s =
    let m : length tokens ≤ place = w.longest tokens [] (sym (append-nil tokens)) (inr (d, inr s)) in
    omega (arith, m, l)

-- no header
pub fault_without_header : (tokens : List Token) → ((c : RawComponent) (front back : List Token) → tokens ≡ front ++ back → Header c front → ⊥) → IsComponentFault tokens 0
fault_without_header tokens n = record { none = none; first = place-none tokens n }
  where
    none : (c : RawComponent) → SpellsComponent c tokens → ⊥
    none c s =
        let w = s.written in
        let v = w.3 in
        n c v.0 (v.1 ++ w.1) (w.2 ∙ ap (λ ts. ts ++ w.1) v.2 ∙ append_assoc v.0 v.1 w.1) v.3

-- no END behind what is read
pub fault_without_end : (c : RawComponent) (tokens header behind rest : List Token) (place : ℕ) → tokens ≡ header ++ behind → Header c header → AreReadOn c.kind [] c.clauses behind rest → NotAhead (Word END) rest → place + length rest ≡ length tokens → IsComponentFault tokens place
fault_without_end c tokens header behind rest place e h r n l = record { none = none rest refl; first = whole }
  where
    whole : IsLongestWhole IsWholeComponent tokens place
    whole = (reading-tells-place c tokens header behind rest place e h r).0 n l

    none : (more : List Token) → more ≡ rest → (d : RawComponent) → SpellsComponent d tokens → ⊥
    none [] f d s =
        let t = read-shorter c.kind [] c.clauses behind rest r in
        let all : tokens ≡ header ++ t.0 = e ∙ ap (λ ts. header ++ ts) (t.1 ∙ ap (λ ts. t.0 ++ ts) (sym f) ∙ append-nil t.0) in
        open_is_not_whole tokens c d (record { written = (header, t.0, all, h, t.2); made = read-made c.kind [] c.clauses behind rest r }) s
    none (t ∷ ts) f d s = none_before tokens place whole (omega (arith, l, ap length f)) d s

-- more behind END
pub fault_behind_end : (c : RawComponent) (tokens header behind rest ended : List Token) (place : ℕ) → tokens ≡ header ++ behind → Header c header → AreReadOn c.kind [] c.clauses behind rest → Ahead (Word END) rest ended → place + length ended ≡ length tokens → 0 < length ended → IsComponentFault tokens place
fault_behind_end c tokens header behind rest ended place e h r a l m =
    let whole : IsLongestWhole IsWholeComponent tokens place = (reading-tells-place c tokens header behind rest place e h r).1 a.0 ended a.1 a.2 l in
    record { none = none_before tokens place whole (omega (arith, l, m)); first = whole }
