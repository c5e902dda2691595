mod Encodings
mod Heads
mod Spans
