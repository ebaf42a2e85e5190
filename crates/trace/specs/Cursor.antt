-- A reader that keeps its place: "A trace reader keeps hold of the trace and its place in it".
use Rattle.trace.specs.declared.cursor.Reader.{Reader}
use Rattle.trace.specs.Decoding.{next_read}

-- the reader after a read: at the place after it, which "moves no reader" if it is refused
abbrev pub moved : Reader → Reader
moved r = record { trace = r.trace; at = (next_read r.trace.now r.at).next }
