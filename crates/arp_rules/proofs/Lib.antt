pub mod ArpRuling
pub mod Emitted
pub mod LinkRuling
pub mod Sound
