-- What the types of the program stand for in the world of a process.
use Rattle.std.specs.Prelude.{map}
use Rattle.erl_term.specs.View.{view}
use Rattle.world_model.specs.declared.world.Delay.{Delay}
use Rattle.world_model.specs.declared.world.Delay.TheVariants.{Forever, Millis}
use Rattle.world_model.specs.declared.world.How.{How}
use Rattle.world_model.specs.declared.world.How.TheVariants.{Return, Error, Exit, Throw}
use Rattle.world_model.specs.declared.world.Request.{Request}
use Rattle.world_model.specs.declared.world.Request.TheVariants.{Call, Send, Trace, Look, Wait}
use Rattle.world_model.specs.declared.world.Reply.{Reply}
use Rattle.world_model.specs.declared.world.Happening.{Happening}
use Rattle.world_model.specs.declared.world.Happening.TheVariants.{Asked, Taken}
use Rattle.world_model.specs.declared.world.Message.{Message}
use Rattle.world_model.specs.declared.world.Script.{Script}
use Rattle.world_model.specs.World as World

-- a delay
abbrev pub delay_view : Delay → World.Delay
delay_view Forever = World.forever
delay_view (Millis n) = World.millis n

-- the way of a reply
abbrev pub how_view : How → World.How
how_view Return = World.return
how_view Error = World.error
how_view Exit = World.exit
how_view Throw = World.throw

-- a request
abbrev pub request_view : Request → World.Request
request_view (Call m f args) = World.call m f (map view args)
request_view (Send to message) = World.send (view to) (view message)
request_view Trace = World.trace
request_view Look = World.look
request_view (Wait delay) = World.wait (delay_view delay)

-- a reply
abbrev pub reply_view : Reply → World.Reply
reply_view r = record { arrivals = map view r.arrivals; how = how_view r.how; term = view r.term }

-- a happening
abbrev pub happening_view : Happening → World.Happening
happening_view (Asked q r) = World.asked (request_view q) (reply_view r)
happening_view (Taken n) = World.taken n

-- a message of a mailbox
abbrev pub message_view : Message → World.Message
message_view m = record { serial = m.serial; term = view m.term }

-- a script
abbrev pub script_view : Script → World.Script
script_view s = record {
  own = view s.own;
  mailbox = map view s.mailbox;
  replies = map reply_view s.replies;
  choices = s.choices;
}
