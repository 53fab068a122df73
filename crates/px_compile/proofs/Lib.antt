mod CodeSteps
mod Laid
mod Pushing
mod Simulation
mod Standing
mod Steps
mod Typed
