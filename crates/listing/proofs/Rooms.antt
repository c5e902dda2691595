-- A listing fits into the room of its file's length, and its run is lawful.
use Rattle.std.proofs.Common.{◌≡◌, ℕ, ◌+◌, ◌*◌, ◌≤◌, true, false, cond, List, length, drop, Some, None, refl, arith}
use Rattle.std.proofs.lemmas.List.{length-drop, length-take}
use Rattle.model.specs.declared.side.Side.TheVariants.{A as SideA, B as SideB}
use Rattle.model.specs.Events.{Lawful}
use Rattle.records.specs.Kinds.{Counter, Log}
use Rattle.captures.specs.Times.{capture_events}
use Rattle.captures.proofs.Counts.{events_few}
use Rattle.formats.specs.ShortLaw.{short_lawful}
use Rattle.formats.specs.EnhancedLaw.{enhanced_lawful}
use Rattle.unitfile.specs.declared.file.UnitFile.{UnitFile}
use Rattle.unitfile.specs.declared.file.FileRefusal.TheVariants.{Layout}
use Rattle.unitfile.specs.Files.{file_refused, laid_out, or_else, side_refused, first_capture, second_capture}
use Rattle.std.proofs.lemmas.Bool.Decides.{nat_tests}
use Rattle.receiver.specs.Units.{new}
use Rattle.runs.specs.Law.{steps}
use Rattle.runs.proofs.Every.{every_run_lawful}
use Rattle.runs.proofs.Lawful.{answered_in_turn}
use Rattle.listing.specs.Listings.{events_left, file_lists, ceiling, listing_setup, LawfulListing, ListedInTurn}
use Rattle.listing.proofs.Stepping.{runs_out}

-- a file that is accepted is not too long
pub accepted_short : (xs : List ℕ) → file_refused xs ≡ None → length xs ≤ 60000
accepted_short xs e =
    (elim (laid_out xs) as (λ b. laid_out xs ≡ b → cond b (or_else (side_refused SideA xs) (side_refused SideB xs)) (Some Layout) ≡ None → length xs ≤ 60000) [
      | true ↦ λ t h. grind (arith, nat_tests)
      | false ↦ λ t h. cc
    ]) refl e

-- of both captures of a file
pub enough : (xs : List ℕ) (n : ℕ) → length xs ≤ 60000
    → 96 * (length (capture_events Counter (first_capture n xs)) + length (capture_events Log (second_capture n xs))) + 48 ≤ ceiling (length xs)
enough xs n h =
    omega (
      arith,
      events_few Counter (first_capture n xs),
      events_few Log (second_capture n xs),
      length-take n (drop 20 xs),
      length-drop n (drop 20 xs),
      length-drop 20 xs,
    )

pub lawful_listing : (xs : List ℕ) (u : UnitFile) → Lawful (file_lists xs SideA) → Lawful (file_lists xs SideB) → LawfulListing xs u
lawful_listing xs u la lb =
    record {
      until_refused = runs_out (listing_setup u.a.settings u.b.settings) _ (new (file_lists xs)) refl;
      every_run_lawful = every_run_lawful _ _ _ _ short_lawful enhanced_lawful la lb (steps (events_left (new (file_lists xs))));
    }

-- its run is answered in turn, whatever its file
pub listed_in_turn : (input : List ℕ) → ListedInTurn input
listed_in_turn input u h =
    answered_in_turn (listing_setup u.a.settings u.b.settings) (file_lists input) (steps (events_left (new (file_lists input))))
