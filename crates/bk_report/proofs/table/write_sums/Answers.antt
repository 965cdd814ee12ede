use Rattle.std.proofs.Common.{◌≡◌, ◌++◌, ℕ, List, length, ◌∙◌, ap, append_assoc, codes}
use Rattle.std.specs.Prelude.{decimal, not}
use Rattle.bk_status.specs.Rows.{is_settled}
use Rattle.bk_report.specs.Table.{count_states, is_obvious_state, is_proved_state}
use Rattle.bk_report.proofs.table.write_sums.Goals as goal

-- pieces that are written one behind another
in_row : (text n m a o b p c q : List ℕ) → ((((text ++ n) ++ (m ++ a)) ++ (o ++ b)) ++ (p ++ c)) ++ q ≡ text ++ (n ++ m ++ a ++ o ++ b ++ p ++ c ++ q)
in_row text n m a o b p c q = simp append_assoc

-- four numbers, of which the last three are other ones
in_counts : (text one two three four new m o p q : List ℕ) (n a b c x y z : ℕ) → a ≡ x → b ≡ y → c ≡ z → one ≡ text ++ decimal n → two ≡ one ++ (m ++ decimal a) → three ≡ two ++ (o ++ decimal b) → four ≡ three ++ (p ++ decimal c) →
    new ≡ four ++ q → new ≡ text ++ (decimal n ++ m ++ decimal x ++ o ++ decimal y ++ p ++ decimal z ++ q)
in_counts text one two three four new m o p q n a b c x y z ea eb ec e f g h k =
    (k ∙ ap (λ t. t ++ q) (h ∙ ap (λ t. t ++ (p ++ decimal c)) (g ∙ ap (λ t. t ++ (o ++ decimal b)) (f ∙ ap (λ t. t ++ (m ++ decimal a)) e)))) ∙
    (in_row text (decimal n) m (decimal a) o (decimal b) p (decimal c) q ∙
    (λ i. text ++ (decimal n ++ m ++ decimal (ea i) ++ o ++ decimal (eb i) ++ p ++ decimal (ec i) ++ q)))

pub returns : goal.returns
returns c =
    let rows = c.args.rows.now in
    in_counts c.args.text.now.items c.write_count.new.text.items c.write_count-2.new.text.items c.write_count-3.new.text.items c.write_count-4.new.text.items c.extend_from_slice.new.self.items
    (codes " obligations: ") (codes " obvious, ") (codes " proved, ") (codes " open\n") (length rows) c.obvious_count.result c.proved_count.result c.open_count.result
    (count_states is_obvious_state rows) (count_states is_proved_state rows) (count_states (λ state. not (is_settled state)) rows)
    c.obvious_count.ensures c.proved_count.ensures c.open_count.ensures
    c.in_ok-write_count.ensures c.in_ok-write_count-2.ensures c.in_ok-write_count-3.ensures c.in_ok-write_count-4.ensures c.in_ok-extend_from_slice.ensures.items
