-- What the check of a frame finds: nothing else opens it.
use Rattle.std.proofs.Common.{◌≡◌, ℕ, ◌<◌, List, [], ◌∷◌, ◌++◌, length, inl, inr}
use Rattle.model.specs.declared.settings.Settings.{Settings}
use Rattle.checks.specs.Found.{Nibbles, OneChanged, MovedFirst, MovedNeighbours}
use Rattle.checks.proofs.Found as found
use Rattle.pulses.specs.Frames.{frame_check}

-- data nibbles, followed by the check nibble that fits them
abbrev pub checked : Settings → List ℕ → List ℕ
checked s vs = vs ++ frame_check s vs ∷ []

pub check_is_a_nibble : (s : Settings) (vs : List ℕ) → Nibbles vs → frame_check s vs < 16
unfolding frame_check
check_is_a_nibble s = found.check4_below

pub one_changed_nibble_found : (s : Settings) (vs ws : List ℕ) → Nibbles vs → Nibbles ws → length vs ≡ length ws
    → OneChanged (checked s vs) (checked s ws) → ws ≡ vs
unfolding frame_check
one_changed_nibble_found s = found.one_changed_nibble_found

pub moved_neighbours_found : (s : Settings) (vs ws : List ℕ) → Nibbles vs → Nibbles ws → length vs ≡ length ws
    → MovedNeighbours (checked s vs) (checked s ws) → ws ≡ vs
unfolding frame_check
moved_neighbours_found s = found.moved_neighbours_found

first_is_one : (xs ys : List ℕ) → MovedFirst xs ys → OneChanged xs ys
first_is_one [] ys h = absurd h
first_is_one (x ∷ xs) [] h = absurd h
first_is_one (x ∷ xs) (y ∷ ys) h = inr h.1

-- with the status nibble in front, which the check leaves out: where two neighbours of all nibbles are changed by at most one each
-- and the check still fits, the data nibbles were not changed
pub moved_data_found : (s : Settings) (sent got : ℕ) (vs ws : List ℕ) → Nibbles vs → Nibbles ws → length vs ≡ length ws
    → MovedNeighbours (sent ∷ checked s vs) (got ∷ checked s ws) → ws ≡ vs
moved_data_found s sent got vs ws v w l h =
    elim h [
      | inl p ↦ moved_neighbours_found s vs ws v w l p.1
      | inr p ↦ one_changed_nibble_found s vs ws v w l (first_is_one (checked s vs) (checked s ws) p.1)
    ]
