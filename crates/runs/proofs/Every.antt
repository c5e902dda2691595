-- Every run of a unit is lawful.
use Rattle.std.proofs.Common.{◌≡◌, List, IfOk, Ok, Err, Result, sym, subst, MatchResult}
use Rattle.model.specs.declared.event.Event.{Event}
use Rattle.model.specs.declared.side.Side.{Side}
use Rattle.model.specs.declared.side.Side.TheVariants.{A as SideA, B as SideB}
use Rattle.model.specs.Events.{Lawful}
use Rattle.serial.specs.Format.{LawfulFormat}
use Rattle.receiver.specs.declared.answer.Call.{Call}
use Rattle.receiver.specs.Channels.{Rules}
use Rattle.receiver.specs.Units.{setup, lists, new, answers}
use Rattle.runs.specs.Law.{LawfulRun, AnsweredInTurn}
use Rattle.receiver.specs.declared.answer.Answer.{Answer}
use Rattle.runs.proofs.Lawful.{lawful_run, answered_in_turn}
use Rattle.runs.proofs.Whole.{messages_whole}

pub every_run_lawful : {X Y : Type 0} (a : Rules X) (b : Rules Y) (xs ys : List Event)
    → LawfulFormat a.format → LawfulFormat b.format → Lawful xs → Lawful ys
    → (calls : List Call) → LawfulRun (setup a b) (lists xs ys) calls (answers (setup a b) (new (lists xs ys)) calls)
every_run_lawful {X} {Y} a b xs ys fa fb la lb calls =
    lawful_run (setup a b) (lists xs ys) formats lawful (λ d es h. messages_whole (setup a b d) (formats d) es h) calls
  where
    formats : (d : Side) → LawfulFormat (setup a b d).format
    formats SideA = fa
    formats SideB = fb

    lawful : (d : Side) → Lawful (lists xs ys d)
    lawful SideA = la
    lawful SideB = lb

-- the answers of a run that was made are lawful
pub made_run_lawful : {X Y Z E : Type 0} (a : Rules X) (b : Rules Y) (xs ys : List Event)
    → LawfulFormat a.format → LawfulFormat b.format → Lawful xs → Lawful ys → (calls : List Call) (got : List (Answer X Y)) (r : Result Z E) (Q : E → Type 0)
    → MatchResult r (λ _. got ≡ answers (setup a b) (new (lists xs ys)) calls) Q
    → IfOk r (λ _. LawfulRun (setup a b) (lists xs ys) calls got)
made_run_lawful a b xs ys fa fb la lb calls got (Ok z) Q e =
    subst (LawfulRun (setup a b) (lists xs ys) calls) (sym e) (every_run_lawful a b xs ys fa fb la lb calls)
made_run_lawful a b xs ys fa fb la lb calls got (Err w) Q e = tt

-- and in turn
pub made_run_in_turn : {X Y Z E : Type 0} (a : Rules X) (b : Rules Y) (xs ys : List Event) (calls : List Call) (got : List (Answer X Y)) (r : Result Z E) (Q : E → Type 0)
    → MatchResult r (λ _. got ≡ answers (setup a b) (new (lists xs ys)) calls) Q
    → IfOk r (λ _. AnsweredInTurn (setup a b) (lists xs ys) calls got)
made_run_in_turn a b xs ys calls got (Ok z) Q e =
    subst (AnsweredInTurn (setup a b) (lists xs ys) calls) (sym e) (answered_in_turn (setup a b) (lists xs ys) calls)
made_run_in_turn a b xs ys calls got (Err w) Q e = tt
