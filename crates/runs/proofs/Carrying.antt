-- One call more: what a loop over calls carries from turn to turn.
use Rattle.std.proofs.Common.{◌≡◌, ℕ, ◌+◌, ◌<◌, List, [], ◌∷◌, ◌++◌, length, get_or, drop, sym, ap, ◌∙◌, ap₂, append_assoc}
use Rattle.std.proofs.lemmas.List.{at_drop_more}
use Rattle.serial.specs.Format.{Format}
use Rattle.receiver.specs.declared.answer.Call.{Call}
use Rattle.receiver.specs.declared.answer.Answer.{Answer}
use Rattle.receiver.specs.Receiving.{Standing, answer_of, left_by}
use Rattle.runs.specs.Running.{answers_of, left_by_all}

module _ {X Y : Type 0} (f : Format X) (g : Format Y) (u v : Standing) (x : Answer X Y) (cs : List Call) (i : ℕ) (d : Call) (more : i < length cs)
    (said : x ≡ answer_of f g u (get_or cs i d)) (left : v ≡ left_by f g u (get_or cs i d)) where
  pub answers_more : (xs ys ws : List (Answer X Y)) → ys ≡ xs ++ x ∷ [] → xs ++ answers_of f g u (drop i cs) ≡ ws
      → ys ++ answers_of f g v (drop (i + 1) cs) ≡ ws
  answers_more xs ys ws pushed inv =
      ap (λ (zs : List (Answer X Y)). zs ++ answers_of f g v (drop (i + 1) cs)) pushed
      ∙ append_assoc xs (x ∷ []) (answers_of f g v (drop (i + 1) cs))
      ∙ ap (λ (zs : List (Answer X Y)). xs ++ zs)
      (ap₂ (λ (y : Answer X Y) (w : Standing). y ∷ answers_of f g w (drop (i + 1) cs)) said left
      ∙ sym (at_drop_more (answers_of f g u) cs i d more))
      ∙ inv

  pub after_more : (w : Standing) → left_by_all f g u (drop i cs) ≡ w → left_by_all f g v (drop (i + 1) cs) ≡ w
  after_more w inv =
      ap (λ (z : Standing). left_by_all f g z (drop (i + 1) cs)) left ∙ sym (at_drop_more (left_by_all f g u) cs i d more) ∙ inv
