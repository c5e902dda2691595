use Rattle.std.proofs.Common.{◌≡◌, ℕ, List, ◌++◌, length, sym, ap, ◌∙◌, subst, ap₂, arith}
use Rattle.model.specs.declared.event.Event.{Event}
use Rattle.model.specs.declared.settings.Settings.{Settings}
use Rattle.model.specs.declared.side.Side.TheVariants.{A as SideA, B as SideB}
use Rattle.model.specs.Events.{Lawful}
use Rattle.records.specs.Kinds.{Counter, Log}
use Rattle.captures.specs.Times.{capture_events}
use Rattle.captures.specs.Sources.{source_left, source_lawful}
use Rattle.unitfile.specs.declared.file.UnitFile.{UnitFile}
use Rattle.unitfile.specs.Files.{head_of}
use Rattle.receiver.specs.Units.{lists, new}
use Rattle.listing.specs.Listings.{file_lists, unit_listing}
use Rattle.listing.specs.Verdicts.{verdict_of}
use Rattle.listing.proofs.Rooms.{enough, accepted_short, lawful_listing}
use Rattle.listing.proofs.file.make_listing.Goals as goal

pub list_unit-requires : goal.list_unit-requires
list_unit-requires c =
    let xs = c.args.input.now in
    let read = c.in-Ok.ensures.contents in
    let a = c.open.ensures.a ∙ ap (capture_events Counter) read.read_a in
    let b = c.open.ensures.b ∙ ap (capture_events Log) read.read_b in
    omega (arith, ap length a, ap length b, enough xs (head_of SideA xs).length (accepted_short xs read.accepted), c.requires.1.0, c.requires.1.1)

pub returns-in-Ok : goal.returns-in-Ok
returns-in-Ok c =
    let xs = c.args.input.now in
    let file : UnitFile = c.in-Ok.file in
    let read = c.in-Ok.ensures.contents in
    let left_a = source_left c.open.result.0.source in
    let left_b = source_left c.open.result.1.source in
    let a : left_a ≡ file_lists xs SideA = c.open.ensures.a ∙ ap (capture_events Counter) read.read_a in
    let b : left_b ≡ file_lists xs SideB = c.open.ensures.b ∙ ap (capture_events Log) read.read_b in
    let sa = file.a.settings in
    let sb = file.b.settings in
    record {
      listing = record {
        refused = λ e h. let none = read.accepted in cc;
        accepted = λ h. (
          file,
          record {
            file_read = read;
            lines = c.list_unit.ensures.items ∙ ap (λ (zs : List ℕ). zs ++ unit_listing c.open.result.0.settings c.open.result.1.settings (new (lists left_a left_b))) c.requires.0
                ∙ ap₂ (λ (s t : Settings). unit_listing s t (new (lists left_a left_b))) c.open.ensures.settings_a c.open.ensures.settings_b
                ∙ ap₂ (λ (es fs : List Event). unit_listing sa sb (new (lists es fs))) a b;
            lawful = lawful_listing xs file (subst Lawful a (source_lawful c.open.result.0.source)) (subst Lawful b (source_lawful c.open.result.1.source));
          },
        );
      };
      verdict = sym (ap verdict_of read.accepted);
      short = omega (arith, c.list_unit.ensures.len, ap length a, ap length b, enough xs (head_of SideA xs).length (accepted_short xs read.accepted), c.requires.1.0);
      capacity = c.list_unit.ensures.capacity;
    }
