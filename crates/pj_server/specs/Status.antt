-- What is said of each end outside of the replies: the status, and a line for standard error.
use Rattle.std.specs.Prelude.{ℕ, List, [], ◌++◌, codes}
use Rattle.std.specs.Fmt.{decimal}
use Rattle.pj_server.specs.declared.ending.End.{End}
use Rattle.pj_server.specs.declared.ending.End.TheVariants as ends

-- the status of an end
abbrev pub status_of : End → ℕ
status_of ends.Finished = 0
status_of ends.Usage = 2
status_of (ends.BadLine line) = 3
status_of ends.SourceFailed = 4
status_of ends.SinkFailed = 5
status_of ends.NoMemory = 6
status_of ends.TooLarge = 7

-- what is said of a bad line
abbrev pub bad_line_end : ℕ → List ℕ
bad_line_end line = codes "projplay: line " ++ decimal line ++ codes " of standard input is bad\n"

-- what happened and where; nothing where the script was run and all was written
abbrev pub end_text : End → List ℕ
end_text ends.Finished = []
end_text ends.Usage = codes "projplay: the arguments aren't taken\n"
end_text (ends.BadLine line) = bad_line_end line
end_text ends.SourceFailed = codes "projplay: standard input could not be read\n"
end_text ends.SinkFailed = codes "projplay: standard output could not be written\n"
end_text ends.NoMemory = codes "projplay: out of memory\n"
end_text ends.TooLarge = codes "projplay: standard input has more than 16777216 bytes\n"
