-- The limits of a connection and of its messages.
use Rattle.std.specs.Prelude.{ℕ}

-- the most bytes of a head, with the line ends before it
abbrev pub most_head_bytes : ℕ
most_head_bytes = 16384

-- the most lines between a head's first line and its end
abbrev pub most_header_lines : ℕ
most_header_lines = 100

-- the most bytes of a body, after its chunks are undone
abbrev pub most_body_bytes : ℕ
most_body_bytes = 16777216

-- the most digits of a Content-Length, leading zeros among them
abbrev pub most_length_digits : ℕ
most_length_digits = 20

-- the most bytes of a body by chunks, from its first size line on
abbrev pub most_encoded_bytes : ℕ
most_encoded_bytes = 134217728

-- the most bytes of a chunk's size line, with its end
abbrev pub most_line_bytes : ℕ
most_line_bytes = 1024

-- the most bytes of trailer lines together
abbrev pub most_trailer_bytes : ℕ
most_trailer_bytes = 16384

-- the most requests of a connection
abbrev pub most_requests : ℕ
most_requests = 1000000

-- no message has more bytes
abbrev pub most_message_bytes : ℕ
most_message_bytes = 134234112
