mod Agreement
mod Leaves
mod Named
mod PlainWalk
mod Rules
mod Table
