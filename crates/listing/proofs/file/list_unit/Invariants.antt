use Rattle.std.proofs.Common.{◌≡◌, ◌+◌, ◌*◌, ◌≤◌, ◌++◌, length, vec_items, vec_len, vec_capacity}
use Rattle.listing.specs.Listings.{unit_listing, events_left}
use Rattle.listing.proofs.file.list_unit.Given as goal

-- the lines so far, of which the last are on the page, and those yet to come are all, and there is room for these
abbrev pub invariant-loop-step : goal.invariant-loop-step
invariant-loop-step g l =
    record {
      lines : (vec_items l.out ++ l.page) ++ unit_listing l.settings_a l.settings_b l.unit.state ≡ vec_items l.initial.out ++ unit_listing l.settings_a l.settings_b l.initial.unit.state;
      settings_a : l.unit.settings_a ≡ l.settings_a;
      settings_b : l.unit.settings_b ≡ l.settings_b;
      room : vec_len l.out + length l.page + (96 * events_left l.unit.state + 48) ≤ vec_capacity l.out;
      page : length l.page + 96 ≤ 4096;
      short : vec_len l.out + length l.page + 96 * events_left l.unit.state ≤ vec_len l.initial.out + 96 * events_left l.initial.unit.state;
      capacity : vec_capacity l.initial.out ≤ vec_capacity l.out;
    }

abbrev pub decreases-loop-step : goal.decreases-loop-step
decreases-loop-step g l = events_left l.unit.state
