-- What contracts of private functions cite: what moves leave, rising numbers, and where uses are.
-- No public contract rests on this file.
pub mod Left
pub mod Rising
pub mod Uses
