pub mod Response
pub mod Printed
pub mod Lawful
pub mod Program
pub mod Unseen
