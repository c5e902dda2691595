-- What the code's channel stands for.
use Rattle.std.specs.Prelude.{Option}
use Rattle.model.specs.declared.settings.Settings.{Settings}
use Rattle.model.specs.declared.event.Event.{Event}
use Rattle.pulses.specs.declared.decoder.Decoder.{Decoder}
use Rattle.pulses.specs.declared.frame.FrameRow.{FrameRow}
use Rattle.pulses.specs.Decoding.{state_of as pulse_state}
use Rattle.serial.specs.declared.window.Window.{Window}
use Rattle.serial.specs.Format.{Format}
use Rattle.serial.specs.Windows.{kept}
use Rattle.receiver.specs.declared.answer.Figures.{Figures}
use Rattle.receiver.specs.declared.answer.Reports.{Reports}
use Rattle.receiver.specs.Channels.{Rules, ChannelState, fresh, reports, given}

-- a channel as it stands: how it is set up, and its state
pub record ChannelStanding : Type 0 where
  pub settings : Settings
  pub state : ChannelState

-- the channel that is meant by its parts
abbrev pub channel_of : {F : Type 0} → Decoder → Window F → Option FrameRow → Figures → ChannelStanding
channel_of decoder window latest figures =
    record {
      settings = decoder.settings;
      state = record { pulses = pulse_state decoder; kept = kept window; latest = latest; frames = figures.frames; faults = figures.faults };
    }

-- a newly prepared channel, set up so
abbrev pub channel_new : Settings → ChannelStanding
channel_new s = record { settings = s; state = fresh }

-- the rules of a channel with these settings and this format
abbrev pub ruled : {M : Type 0} → Settings → Format M → Rules M
ruled s f = record { settings = s; format = f }

-- what a channel reports at an event, and what it is then, where its format means this
abbrev pub reports_of : {M : Type 0} → Format M → ChannelStanding → Event → Reports M
reports_of f c e = reports (ruled c.settings f) c.state e

abbrev pub given_to : {M : Type 0} → Format M → ChannelStanding → Event → ChannelStanding
given_to f c e = record { settings = c.settings; state = given (ruled c.settings f) c.state e }
