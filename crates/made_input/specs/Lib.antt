pub mod MadeCaptures
pub mod MadeFrames
pub mod MadeScripts
