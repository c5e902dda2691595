-- The two kinds of capture.

pub data Kind : Type 0 where
  -- records of four bytes, with the value of a sixteen-bit timer
  Counter : Kind
  -- records of eight bytes, with the whole time
  Log : Kind
