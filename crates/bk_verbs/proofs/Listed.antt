-- Obligations are written, and put, one after another.
use Rattle.std.proofs.Common.{◌≡◌, ℕ, ◌+◌, ◌<◌, ◌≤◌, List, [], ◌∷◌, ◌++◌, length, take, drop, map, slice_index_or, Option, refl, sym, ◌∙◌, ap, subst, arith}
use Rattle.std.proofs.lemmas.Grind.{take_at_read, flat_map-append}
use Rattle.std.proofs.lemmas.List.{map-append, take-append-drop, take_all}
use Rattle.bk_io.specs.Pieces.{Piece, PutWhole, WroteFront, written_with}
use Rattle.bk_form.specs.Table.{Table}
use Rattle.bk_seq.specs.Sequents.{Sequent}
use Rattle.bk_report.specs.Obligations.{obligation_text, obligations_text}
use Rattle.bk_verbs.specs.Puts.{PutsEach}
use Rattle.bk_verbs.proofs.Plays.{written_twice}
use Rattle.bk_verbs.proofs.Fronts.{front_longer, front_later}
use Rattle.bk_verbs.proofs.Puts.{puts_more, puts_one}

nothing_behind : (xs : List ℕ) → xs ++ [] ≡ xs
nothing_behind [] = refl
nothing_behind (x ∷ xs) = ap (λ ys. x ∷ ys) (nothing_behind xs)

texts_joined : (table : Table) (xs ys : List (List ℕ × Sequent)) → obligations_text table (xs ++ ys) ≡ obligations_text table xs ++ obligations_text table ys
texts_joined table xs ys = flat_map-append (obligation_text table) xs ys

-- all of a text is a front of it
all_written : (text : List ℕ) (old new : Option (List ℕ)) → new ≡ written_with old text → WroteFront text old new
all_written text old new e = record { count = length text; within = omega arith; front = e ∙ ap (written_with old) (sym (take_all (length text) text (omega arith))) }

module _ {A : Type 0} (name : A → List ℕ × Sequent) (table : Table) (list : List A) (i : ℕ) where
  one_more : (x : A) → i < length list → x ≡ slice_index_or list i x → map name (take (i + 1) list) ≡ map name (take i list) ++ name x ∷ []
  one_more x inside is =
      ap (map name) ((take_at_read list i x inside).1 ∙ ap (λ y. take i list ++ y ∷ []) (sym is)) ∙ map-append name (take i list) (x ∷ [])

  pub written_more : (x : A) (text : List ℕ) (old mid new : Option (List ℕ)) → i < length list → x ≡ slice_index_or list i x → mid ≡ written_with old (obligations_text table (map name (take i list))) → text ≡ obligation_text table (name x) → new ≡ written_with mid text →
      new ≡ written_with old (obligations_text table (map name (take (i + 1) list)))
  written_more x text old mid new inside is before t e =
      e ∙ (ap (λ m. written_with m text) before ∙ (written_twice old (obligations_text table (map name (take i list))) text ∙
      (ap (λ y. written_with old (obligations_text table (map name (take i list)) ++ y)) (t ∙ sym (nothing_behind (obligation_text table (name x)))) ∙
      ap (written_with old) (sym (ap (obligations_text table) (one_more x inside is) ∙ texts_joined table (map name (take i list)) (name x ∷ []))))))

  pub pieces_more : (x : A) (text : List ℕ) (old mid new : Option (List Piece)) → i < length list → x ≡ slice_index_or list i x → PutsEach (map (obligation_text table) (map name (take i list))) old mid → text ≡ obligation_text table (name x) → PutWhole text mid new →
      PutsEach (map (obligation_text table) (map name (take (i + 1) list))) old new
  pieces_more x text old mid new inside is before t put =
      subst (λ y. PutsEach y old new) (sym (ap (map (obligation_text table)) (one_more x inside is) ∙ map-append (obligation_text table) (map name (take i list)) (name x ∷ [])))
      (puts_more (map (obligation_text table) (map name (take i list))) (obligation_text table (name x) ∷ []) old mid new before (puts_one (obligation_text table (name x)) mid new (subst (λ y. PutWhole y mid new) t put)))

  -- what is written where memory runs out before the next
  pub front_before : (old new : Option (List ℕ)) → new ≡ written_with old (obligations_text table (map name (take i list))) → WroteFront (obligations_text table (map name list)) old new
  front_before old new e =
      subst (λ y. WroteFront y old new)
      (sym (texts_joined table (map name (take i list)) (map name (drop i list))) ∙ ap (obligations_text table) (sym (map-append name (take i list) (drop i list)) ∙ ap (map name) (take-append-drop i list)))
      (front_longer (obligations_text table (map name (take i list))) (obligations_text table (map name (drop i list))) old new (all_written (obligations_text table (map name (take i list))) old new e))

  -- and where the sink fails at it
  pub front_within : (x : A) (text : List ℕ) (old mid new : Option (List ℕ)) → i < length list → x ≡ slice_index_or list i x → mid ≡ written_with old (obligations_text table (map name (take i list))) → text ≡ obligation_text table (name x) → WroteFront text mid new →
      WroteFront (obligations_text table (map name list)) old new
  front_within x text old mid new inside is before t front =
      let so_far = obligations_text table (map name (take i list)) in
      let more : WroteFront (so_far ++ obligation_text table (name x)) old new = front_later so_far (obligation_text table (name x)) old mid new before (subst (λ y. WroteFront y mid new) t front) in
      let next : so_far ++ obligation_text table (name x) ≡ obligations_text table (map name (take (i + 1) list)) =
      ap (λ y. so_far ++ y) (sym (nothing_behind (obligation_text table (name x)))) ∙ (sym (texts_joined table (map name (take i list)) (name x ∷ [])) ∙ ap (obligations_text table) (sym (one_more x inside is))) in
      subst (λ y. WroteFront y old new)
      (sym (texts_joined table (map name (take (i + 1) list)) (map name (drop (i + 1) list))) ∙ ap (obligations_text table) (sym (map-append name (take (i + 1) list) (drop (i + 1) list)) ∙ ap (map name) (take-append-drop (i + 1) list)))
      (front_longer (obligations_text table (map name (take (i + 1) list))) (obligations_text table (map name (drop (i + 1) list))) old new (subst (λ y. WroteFront y old new) next more))

  -- all of them
  pub written_all : (old new : Option (List ℕ)) → length list ≤ i → new ≡ written_with old (obligations_text table (map name (take i list))) → new ≡ written_with old (obligations_text table (map name list))
  written_all old new end w = w ∙ ap (λ l. written_with old (obligations_text table (map name l))) (take_all i list end)

  pub pieces_all : (old new : Option (List Piece)) → length list ≤ i → PutsEach (map (obligation_text table) (map name (take i list))) old new → PutsEach (map (obligation_text table) (map name list)) old new
  pieces_all old new end p = subst (λ l. PutsEach (map (obligation_text table) (map name l)) old new) (take_all i list end) p
