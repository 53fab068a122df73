-- Which end of a command a refusal of a layer is.
use Rattle.px_lexer.specs.declared.scan.LexEnd.{LexEnd}
use Rattle.px_lexer.specs.declared.scan.LexEnd.TheVariants as lexing
use Rattle.px_parser.specs.declared.parse_end.ParseEnd.{ParseEnd}
use Rattle.px_parser.specs.declared.parse_end.ParseEnd.TheVariants as parsing
use Rattle.px_scope.specs.declared.ends.ScopeEnd.{ScopeEnd}
use Rattle.px_scope.specs.declared.ends.ScopeEnd.TheVariants as scoping
use Rattle.px_types.specs.declared.ends.TypeEnd.{TypeEnd}
use Rattle.px_types.specs.declared.ends.TypeEnd.TheVariants as typing
use Rattle.px_descent.specs.declared.end.NoDescent.{NoDescent}
use Rattle.px_replay.specs.declared.ends.FeedEnd.{FeedEnd}
use Rattle.px_replay.specs.declared.ends.FeedEnd.TheVariants as feeding
use Rattle.px_schedule.specs.declared.schedule_end.ScheduleEnd.{ScheduleEnd}
use Rattle.px_schedule.specs.declared.schedule_end.ScheduleEnd.TheVariants as scheduling
use Rattle.px_drive.specs.declared.outcome.End.{End}
use Rattle.px_drive.specs.declared.outcome.End.TheVariants.{Source, Rejected, Schedule, NoMemory}
use Rattle.px_drive.specs.declared.outcome.SourceFault.TheVariants.{Lex, Parse, Scope, Typing, Descent}

-- the end where a text has no tokens
abbrev pub end_of_lexing : LexEnd → End
end_of_lexing (lexing.Fault at) = Source (Lex at)
end_of_lexing lexing.NoMemory = NoMemory

-- the end where tokens have no tree
abbrev pub end_of_parsing : ParseEnd → End
end_of_parsing (parsing.Fault at) = Source (Parse at)
end_of_parsing parsing.NoMemory = NoMemory

-- the end where a tree has no numbers for its names
abbrev pub end_of_scoping : ScopeEnd → End
end_of_scoping (scoping.Fault kind at) = Source (Scope kind at)
end_of_scoping scoping.NoMemory = NoMemory

-- the end where a numbered program is not typed
abbrev pub end_of_typing : TypeEnd → End
end_of_typing (typing.Fault kind at) = Source (Typing kind at)
end_of_typing typing.NoMemory = NoMemory

-- the end where a definition does not descend
abbrev pub end_of_descent : NoDescent → End
end_of_descent refusal = Source (Descent refusal.def refusal.call)

-- the end where a line of a derivation is refused, or lines are missing
abbrev pub end_of_feeding : FeedEnd → End
end_of_feeding (feeding.Rejected line why) = Rejected line why
end_of_feeding feeding.NoMemory = NoMemory

-- the end where a line of a schedule is refused
abbrev pub end_of_schedule : ScheduleEnd → End
end_of_schedule (scheduling.Fault line kind) = Schedule line kind
end_of_schedule scheduling.NoMemory = NoMemory
